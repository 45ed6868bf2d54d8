use Rattle.std.proofs.Common.{arith, refl}
use Rattle.std.proofs.lemmas.Int.{ints}
use Rattle.net_normal.specs.NodeSums.{own_slack}
use Rattle.net_normal.proofs.FlowArcs.{same_arc}
use Rattle.net_normal.proofs.node_part.own_slack.Goals as goal

pub overflow_sub-result : goal.overflow_sub-result
overflow_sub-result c =
    let low = c.low_side.ensures.size c.requires.least in
    let high = c.high_side.ensures.size c.requires.most in
    omega (arith, ints)

pub returns : goal.returns
returns c =
    let low = c.low_side.ensures.size c.requires.least in
    let high = c.high_side.ensures.size c.requires.most in
    same_arc _ (own_slack c.args.node c.args.outside c.args.range.now c.args.sums.now) refl refl refl (omega (arith, ints, c.low_side.ensures.value, c.high_side.ensures.value)) refl
