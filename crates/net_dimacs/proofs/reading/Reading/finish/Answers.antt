use Rattle.net_dimacs.proofs.ReadLaws.{is_found, is_only, is_rejected, is_placed}
use Rattle.net_dimacs.proofs.reading.Reading.finish.Goals as goal

pub returns-clause-ok : goal.returns-clause-ok
returns-clause-ok c = λ text stands. is_found text c.read_out.result (c.read_out.ensures text stands)

pub returns-clause-only : goal.returns-clause-only
returns-clause-only c = λ text stands. is_only text c.read_out.result (c.read_out.ensures text stands)

pub returns-clause-rejected : goal.returns-clause-rejected
returns-clause-rejected c = λ text stands. is_rejected text c.read_out.result (c.read_out.ensures text stands)

pub returns-clause-place : goal.returns-clause-place
returns-clause-place c = λ text stands. is_placed text c.read_out.result (c.read_out.ensures text stands)
