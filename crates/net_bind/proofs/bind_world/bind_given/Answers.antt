use Rattle.std.proofs.Common.{arith}
use Rattle.net_bind.proofs.bind_world.bind_given.Goals as goal

pub returns : goal.returns
returns c = grind (arith)
