use Rattle.std.proofs.Common.{arith}
use Rattle.std.proofs.lemmas.Grind.{common_steps}
use Rattle.net_solve.proofs.rounding.residues.Goals as goal

pub loop-potential-preserved : goal.loop-potential-preserved
loop-potential-preserved c = grind (arith, common_steps)
