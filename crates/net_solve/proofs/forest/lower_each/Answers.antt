use Rattle.std.proofs.Common.{◌≡◌, ◌<◌, ℤ, pos, ◌-ℤ◌, cond, length, get_or, to_z, of_z, w64, vec_len, ◌∙◌, ap, arith}
use Rattle.std.proofs.lemmas.Grind.{common_steps}
use Rattle.std.proofs.lemmas.List.{get_or_read}
use Rattle.std.proofs.lemmas.Int.{ints}
use Rattle.net_solve.proofs.ForestSinking.{lowered-fits, lowered-value, lowered-done, lowered-left, skipped-done}
use Rattle.net_check.specs.Certificates.{is_in}
use Rattle.net_solve.proofs.forest.lower_each.Goals.{then-flags-node, else-flags-node}
use Rattle.net_solve.proofs.forest.lower_each.Goals as goal

pub loop-node-preserved : goal.loop-node-preserved
loop-node-preserved c =
    let i = c.loop-node.node in
    let old = c.args.potentials.now.items in
    let xs = c.loop-node.potentials.items in
    let h = c.loop-node.invariant in
    let amount : ℤ = to_z w64 (of_z w64 c.args.amount) in
    let within : i < vec_len c.args.potentials.now = omega (arith, c.loop-node-test.true, h.len) in
    let inside : i < length xs = omega (arith, within, h.len, c.loop-node.potentials.ok.0) in
    let same : get_or xs i (pos 0) ≡ get_or old i (pos 0) = h.left i (omega arith) within in
    elim c.if-flags-node.branch [
      | then-flags-node w ↦
          let is = lowered-value w.index_mut.result.now (get_or old i (pos 0)) c.args.amount (get_or_read xs _ _ inside w.index_mut.ensures.value (pos 0) ∙ same) (c.requires.sizes i within) c.requires.amount in
          rw w.potentials-is (record {
            len = h.len;
            done = lowered-done c.args.flags.now amount _ old xs i inside w.if-flags-node.true is h.done;
            left = lowered-left old xs _ (vec_len c.args.potentials.now) i h.left;
          })
      | else-flags-node w ↦
          rw w.potentials-is (record {
            len = h.len;
            done = skipped-done c.args.flags.now amount old xs i w.if-flags-node.false same h.done;
            left = λ v l m. h.left v (omega (arith, l)) m;
          })
    ]

pub overflow_sub-index_mut : goal.overflow_sub-index_mut
overflow_sub-index_mut c =
    let i = c.loop-node.node in
    let h = c.loop-node.invariant in
    let within : i < vec_len c.args.potentials.now = omega (arith, c.loop-node-test.true, h.len) in
    let old = get_or_read c.loop-node.potentials.items _ _ (omega (arith, within, h.len, c.loop-node.potentials.ok.0)) c.index_mut.ensures.value (pos 0) in
    lowered-fits c.index_mut.result.now _ c.args.amount (old ∙ h.left i (omega arith) within) (c.requires.sizes i within) c.requires.amount

pub returns-clause-value : goal.returns-clause-value
returns-clause-value c = λ v l.
    let size = c.requires.amount in
    let whole : to_z w64 (of_z w64 c.args.amount) ≡ c.args.amount = omega (arith, ints, size.above, size.below) in
    c.loop-node.invariant.done v (omega (arith, l, c.loop-node-test.false, c.loop-node.invariant.len))
    ∙ ap (λ (a : ℤ). get_or c.args.potentials.now.items v (pos 0) -ℤ cond (is_in c.args.flags.now v) a (pos 0)) whole

pub index_mut-requires : goal.index_mut-requires
index_mut-requires c = grind (arith, common_steps)

pub bounds-flags-node : goal.bounds-flags-node
bounds-flags-node c = grind (arith, common_steps)

pub returns-clause-len : goal.returns-clause-len
returns-clause-len c = grind (arith, common_steps)
