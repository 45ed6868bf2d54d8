use Rattle.net_dimacs.proofs.WriteLaws.{text_is, text_only}
use Rattle.net_dimacs.proofs.problem_writer.write_problem_to.Goals as goal

pub returns-clause-problem : goal.returns-clause-problem
returns-clause-problem g c = text_is c.args.problem.now

pub returns-clause-only : goal.returns-clause-only
returns-clause-only g c = text_only c.args.problem.now
