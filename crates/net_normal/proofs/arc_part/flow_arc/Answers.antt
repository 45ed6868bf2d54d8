use Rattle.std.proofs.Common.{arith}
use Rattle.std.proofs.lemmas.Grind.{common_steps}
use Rattle.std.proofs.lemmas.Int.{ints}
use Rattle.net_normal.specs.NormalForm.{flow_arc_of}
use Rattle.net_normal.proofs.FlowArcs.{same_arc}
use Rattle.net_normal.proofs.arc_part.flow_arc.Goals as goal

pub returns : goal.returns
returns c =
    let sized = c.offset-offset.ensures.size c.requires.lower in
    same_arc _ (flow_arc_of c.args.profile c.args.sense c.args.outside c.args.arc.now) c.unwrap_or.ensures c.unwrap_or-2.ensures
    (omega (arith, ints, c.offset-offset.ensures.value))
    (omega (arith, ints, c.offset-offset.ensures.value))
    (omega (arith, ints, c.cost.ensures))

pub cost-requires : goal.cost-requires
cost-requires c = grind (arith, common_steps)

pub overflow_sub-result : goal.overflow_sub-result
overflow_sub-result c = grind (arith, common_steps)

pub overflow_sub-result-2 : goal.overflow_sub-result-2
overflow_sub-result-2 c = grind (arith, common_steps)
