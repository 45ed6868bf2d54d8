use Rattle.net_dimacs.proofs.ReadLaws.{is_found, is_only, is_rejected, is_placed}
use Rattle.net_dimacs.proofs.problem_reader.read_problem.Goals as goal

pub returns-clause-ok : goal.returns-clause-ok
returns-clause-ok c = is_found c.args.text.now c.read_whole.result c.read_whole.ensures.value

pub returns-clause-only : goal.returns-clause-only
returns-clause-only c = is_only c.args.text.now c.read_whole.result c.read_whole.ensures.value

pub returns-clause-rejected : goal.returns-clause-rejected
returns-clause-rejected c = is_rejected c.args.text.now c.read_whole.result c.read_whole.ensures.value

pub returns-clause-place : goal.returns-clause-place
returns-clause-place c = is_placed c.args.text.now c.read_whole.result c.read_whole.ensures.value
