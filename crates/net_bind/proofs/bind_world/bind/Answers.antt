use Rattle.std.proofs.Common.{arith}
use Rattle.std.proofs.lemmas.Grind.{common_steps}
use Rattle.net_bind.proofs.bind_world.bind.Goals as goal

pub returns : goal.returns
returns c = grind (arith, common_steps)

pub bind_statements-requires : goal.bind_statements-requires
bind_statements-requires c = grind (arith, common_steps)
