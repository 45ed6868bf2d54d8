use Rattle.std.proofs.Common.{rules}
use Rattle.net_bind.proofs.Fresh.{whole_world}
use Rattle.net_bind.proofs.bind_world.whole.Goals as goal

pub returns-clause-world : goal.returns-clause-world
returns-clause-world c = search (rules, whole_world c.args.world.now c.args.widths.now c.requires)
