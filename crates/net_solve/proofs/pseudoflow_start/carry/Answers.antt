use Rattle.std.proofs.Common.{nat_eq, arith}
use Rattle.std.proofs.lemmas.Grind.{common_steps}
use Rattle.net_solve.proofs.Changes.{counted, sized-on, wide-flow, wide-back}
use Rattle.net_solve.proofs.pseudoflow_start.carry.Goals as goal

pub add_at-requires-2-clause-size : goal.add_at-requires-2-clause-size
add_at-requires-2-clause-size c =
    let arc = c.args.arc.now in
    let flow = wide-flow c.wide-flow.result c.args.flow.now c.wide-flow.ensures.value c.requires.flow in
    sized-on (nat_eq arc.src arc.dst) _ _ c.args.flow.now _ (c.requires.sizes arc.dst c.requires.arc.dst) c.requires.flow flow (c.add_at.ensures.value arc.dst c.requires.arc.dst)

pub returns-clause-value : goal.returns-clause-value
returns-clause-value c = λ v l.
    let arc = c.args.arc.now in
    counted (nat_eq arc.src v) (nat_eq arc.dst v) _ _ _ c.args.flow.now _ _
    (c.add_at.ensures.value v l) (c.add_at-2.ensures.value v (omega (arith, l, c.add_at.ensures.len)))
    (wide-flow c.wide-flow.result c.args.flow.now c.wide-flow.ensures.value c.requires.flow)
    (wide-back c.wide-flow.result c.args.flow.now c.wide-flow.ensures.value c.requires.flow)

pub add_at-requires-clause-size : goal.add_at-requires-clause-size
add_at-requires-clause-size c = grind (arith, common_steps)

pub overflow_sub-flow : goal.overflow_sub-flow
overflow_sub-flow c = grind (arith, common_steps)

pub add_at-requires-2-clause-amount : goal.add_at-requires-2-clause-amount
add_at-requires-2-clause-amount c = grind (arith, common_steps)

pub add_at-requires-clause-amount : goal.add_at-requires-clause-amount
add_at-requires-clause-amount c = grind (arith, common_steps)

pub add_at-requires-2-clause-node : goal.add_at-requires-2-clause-node
add_at-requires-2-clause-node c = grind (arith, common_steps)

pub returns-clause-len : goal.returns-clause-len
returns-clause-len c = grind (arith, common_steps)
