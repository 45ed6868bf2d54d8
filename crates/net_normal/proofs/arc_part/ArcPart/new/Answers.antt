use Rattle.std.proofs.Common.{arith}
use Rattle.std.proofs.lemmas.Grind.{common_steps}
use Rattle.net_normal.proofs.arc_part.ArcPart.new.Goals as goal

pub returns-clause-offsets : goal.returns-clause-offsets
returns-clause-offsets c = grind (arith, common_steps)

pub returns-clause-constant : goal.returns-clause-constant
returns-clause-constant c = grind (arith, common_steps)

pub returns-clause-arcs : goal.returns-clause-arcs
returns-clause-arcs c = grind (arith, common_steps)

pub returns-clause-numbers : goal.returns-clause-numbers
returns-clause-numbers c = grind (arith)

pub returns-clause-sums : goal.returns-clause-sums
returns-clause-sums c = grind (arith)
