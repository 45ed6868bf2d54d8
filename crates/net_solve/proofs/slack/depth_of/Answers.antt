use Rattle.std.proofs.Common.{of_z, w64, ap, rules, arith}
use Rattle.std.proofs.lemmas.Grind.{common_steps}
use Rattle.net_solve.proofs.Crossing.{way-forwards, way-back, full-forwards, full-back, full-outside, full-inside, depth-is, depth-back}
use Rattle.net_solve.proofs.slack.depth_of.Goals as goal

pub returns-in-true-false-clause-some : goal.returns-in-true-false-clause-some
returns-in-true-false-clause-some c =
    let r = c.reduced_cost-reduced in
    way-forwards c.args.potentials.now c.args.flags.now _ c.args.arc.now c.args.flow.now c.in-true-false.is-0 c.in-true-false.is-1 (λ e. c.if-flow-arc.true (ap (of_z w64) e)) (depth-is r.result _ r.ensures.value r.ensures.size)

pub returns-in-false-true-clause-some : goal.returns-in-false-true-clause-some
returns-in-false-true-clause-some c =
    let r = c.reduced_cost-reduced in
    way-back c.args.potentials.now c.args.flags.now _ c.args.arc.now c.args.flow.now c.in-false-true.is-0 c.in-false-true.is-1 (λ e. c.if-flow-arc-2.true (ap (of_z w64) e)) (depth-back r.result _ r.ensures.value r.ensures.size)

pub returns-in_default-clause-none : goal.returns-in_default-clause-none
returns-in_default-clause-none c = full-inside c.args.flags.now c.args.arc.now c.args.flow.now c.in_default.is-0 c.in_default.is-1

pub returns-in_default-4-clause-none : goal.returns-in_default-4-clause-none
returns-in_default-4-clause-none c = full-outside c.args.flags.now c.args.arc.now c.args.flow.now c.in_default.is-0 c.in_default.is-1

pub returns-in_default-2-clause-none : goal.returns-in_default-2-clause-none
returns-in_default-2-clause-none c = full-forwards c.args.flags.now c.args.arc.now c.args.flow.now c.in-true-false.is-1 (search rules)

pub returns-in_default-3-clause-none : goal.returns-in_default-3-clause-none
returns-in_default-3-clause-none c = full-back c.args.flags.now c.args.arc.now c.args.flow.now c.in-false-true.is-0 (search rules)

pub returns-in-false-true-clause-size : goal.returns-in-false-true-clause-size
returns-in-false-true-clause-size c = grind (arith, common_steps)

pub returns-in-true-false-clause-size : goal.returns-in-true-false-clause-size
returns-in-true-false-clause-size c = grind (arith, common_steps)

pub overflow_sub-result : goal.overflow_sub-result
overflow_sub-result c = grind (arith, common_steps)

pub bounds-flags-arc : goal.bounds-flags-arc
bounds-flags-arc c = grind (arith, common_steps)

pub bounds-flags-arc-2 : goal.bounds-flags-arc-2
bounds-flags-arc-2 c = grind (arith, common_steps)

pub reduced_cost-reduced-requires : goal.reduced_cost-reduced-requires
reduced_cost-reduced-requires c = grind (arith, common_steps)
