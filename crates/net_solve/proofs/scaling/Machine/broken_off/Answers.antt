use Rattle.std.proofs.Common.{refl}
use Rattle.net_solve.proofs.Ends.{run-off}
use Rattle.net_solve.proofs.scaling.Machine.broken_off.Goals as goal

pub returns : goal.returns
returns c = λ problem h. run-off problem c.args.self.now c.args.self.now.budget h refl
