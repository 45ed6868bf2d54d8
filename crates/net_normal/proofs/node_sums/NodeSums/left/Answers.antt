use Rattle.std.proofs.Common.{arith}
use Rattle.std.proofs.lemmas.Grind.{common_steps}
use Rattle.std.proofs.lemmas.Int.{ints}
use Rattle.net_normal.specs.NodeSums.{left}
use Rattle.net_normal.proofs.ArcCounts.{same_sums}
use Rattle.net_normal.proofs.node_sums.NodeSums.left.Goals as goal

pub returns : goal.returns
returns c = same_sums _ (left c.args.profile c.args.arc.now c.args.self.now) (omega (arith, ints)) (omega (arith, ints)) (omega (arith, ints, c.offset.ensures.value, c.offset.ensures.size c.requires.lower))

pub overflow_sub-result-3 : goal.overflow_sub-result-3
overflow_sub-result-3 c = grind (arith, common_steps)

pub overflow_sub-result-2 : goal.overflow_sub-result-2
overflow_sub-result-2 c = grind (arith, common_steps)

pub overflow_sub-result : goal.overflow_sub-result
overflow_sub-result c = grind (arith, common_steps)
