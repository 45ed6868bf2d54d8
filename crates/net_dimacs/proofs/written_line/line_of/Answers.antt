use Rattle.std.proofs.Common.{arith}
use Rattle.std.proofs.lemmas.Grind.{common_steps}
use Rattle.net_dimacs.proofs.written_line.line_of.Goals as goal

pub returns : goal.returns
returns c = grind (arith, common_steps)

pub loop-number-preserved : goal.loop-number-preserved
loop-number-preserved c = grind (arith, common_steps)

pub loop-number-init : goal.loop-number-init
loop-number-init c = grind (arith, common_steps)
