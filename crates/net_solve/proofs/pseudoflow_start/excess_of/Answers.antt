use Rattle.std.proofs.Common.{◌≡◌, ◌<◌, List, ℤ, length, vec_len, get_or, pos, ◌-ℤ◌, ◌∙◌, ap, arith}
use Rattle.std.proofs.lemmas.Grind.{common_steps}
use Rattle.std.proofs.lemmas.Int.{ints}
use Rattle.std.proofs.lemmas.List.{get_or_read}
use Rattle.net_solve.proofs.PushedFlow.{pushed}
use Rattle.net_solve.proofs.Changes.{difference-fits}
use Rattle.net_solve.proofs.pseudoflow_start.excess_of.Goals as goal

pub loop-node-preserved : goal.loop-node-preserved
loop-node-preserved c =
    let h = c.loop-node.invariant in
    let problem = c.args.problem.now in
    let supplies = problem.supplies.items in
    let i = c.loop-node.node in
    let xs = c.loop-node.excess.items in
    let sent = c.in_ok-sent.sent.items in
    let inside : i < length supplies = omega (arith, c.loop-node-test.true, ap length c.deref-supply-items.ensures.value) in
    let supply : c.wide.result ≡ get_or supplies i (pos 0) = c.wide.ensures.value ∙ ap (λ (ys : List ℤ). get_or ys i (pos 0)) c.deref-supply-items.ensures.value in
    let at : i < length sent = omega (arith, inside, c.in_ok-sent.ensures.len, c.in_ok-sent.sent.ok.0, problem.supplies.ok.0) in
    let out : c.index.result.now ≡ get_or sent i (pos 0) = get_or_read sent _ _ at c.index.ensures (pos 0) in
    let small = c.in_ok-sent.ensures.size i (omega (arith, inside, problem.supplies.ok.0)) in
    let size = c.wide.ensures.size in
    rw c.in_ok-push.ensures.items (record {
      count = omega (arith, c.in_ok-push.ensures.len, h.count);
      value = pushed (λ k z. z ≡ get_or supplies k (pos 0) -ℤ get_or c.in_ok-sent.sent.items k (pos 0)) xs _ (pos 0) i (omega (arith, h.count, c.loop-node.excess.ok.0)) h.value (omega (arith, ints, supply, out, small.above, small.below, size.above, size.below));
    })

pub loop-node-init : goal.loop-node-init
loop-node-init c = record { count = c.in_ok-excess.ensures.len; value = λ v l. absurd (omega (arith, l)) }

pub index-requires : goal.index-requires
index-requires c = omega (arith, c.loop-node-test.true, c.deref-supply-items.ensures.len, c.in_ok-sent.ensures.len)

pub overflow_sub-wide : goal.overflow_sub-wide
overflow_sub-wide c =
    let i = c.loop-node.node in
    let sent = c.in_ok-sent.sent.items in
    let inside : i < vec_len c.args.problem.now.supplies = omega (arith, c.loop-node-test.true, c.deref-supply-items.ensures.len) in
    let out = get_or_read sent _ _ (omega (arith, inside, c.in_ok-sent.ensures.len, c.in_ok-sent.sent.ok.0)) c.index.ensures (pos 0) in
    difference-fits c.wide.result c.index.result.now _ c.wide.ensures.size out (c.in_ok-sent.ensures.size i inside)

pub returns-clause-len : goal.returns-clause-len
returns-clause-len c = omega (arith, c.loop-node.invariant.count, c.loop-node-test.false, c.loop-node.auto.node-end, c.deref-supply-items.ensures.len)

pub returns-clause-value : goal.returns-clause-value
returns-clause-value c = λ v l.
    c.loop-node.invariant.value v (omega (arith, l, c.loop-node-test.false, c.deref-supply-items.ensures.len))
    ∙ ap (λ (z : ℤ). get_or c.args.problem.now.supplies.items v (pos 0) -ℤ z) (c.in_ok-sent.ensures.value v l)

pub bounds-supply-items-node : goal.bounds-supply-items-node
bounds-supply-items-node c = grind (arith, common_steps)

pub offset_bounds-supply-items-node : goal.offset_bounds-supply-items-node
offset_bounds-supply-items-node c = grind (arith, common_steps)
