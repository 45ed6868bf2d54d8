use Rattle.std.proofs.Common.{arith}
use Rattle.std.proofs.lemmas.Grind.{common_steps}
use Rattle.net_sets.proofs.short_tuple.ShortTuple.of.Goals as goal

pub loop-member-init : goal.loop-member-init
loop-member-init g c = grind (arith, common_steps)

pub push-requires : goal.push-requires
push-requires g c = grind (arith, common_steps)

pub loop-member-preserved : goal.loop-member-preserved
loop-member-preserved g c = grind (arith, common_steps)

pub returns : goal.returns
returns g c = grind (arith, common_steps)
