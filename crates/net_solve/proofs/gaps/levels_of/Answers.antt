use Rattle.std.proofs.Common.{◌≡◌, ◌+◌, ◌^◌, ◌≤◌, ◌++◌, ◌∷◌, [], get_or, ℤ, pos, ◌+ℤ◌, ◌-ℤ◌, ◌≤ℤ◌, to_z, of_z, w64, sym, ◌∙◌, ap, subst, arith}
use Rattle.std.specs.Int.{w128, int_min}
use Rattle.std.proofs.lemmas.Int.{ints}
use Rattle.std.proofs.lemmas.Grind.{common_steps}
use Rattle.net_normal.specs.Limits.{IsSized}
use Rattle.net_solve.proofs.Closing.{HasLevelled, levelled-start, step, level-next, level-small, levelled-next, levelled-done}
use Rattle.net_solve.proofs.gaps.levels_of.Goals as goal

-- what is known of the step
stepped : (c : goal.After-min) → (c.min.result ≡ int_min (c.wide-number.result -ℤ to_z w128 c.loop-number.last-bits) (pos c.args.most)) × ((pos 0 ≤ℤ c.min.result) × (c.min.result ≤ℤ pos (10 ^ 12)))
stepped c =
    let h = c.loop-number.invariant in
    let x = c.wide-number.ensures in
    step (to_z w128 c.loop-number.last-bits) c.wide-number.result c.from.result c.min.result c.args.most
    (omega (arith, ints, x.value, h.after c.loop-number.number-index (omega arith) c.loop-number-test.true)) x.size h.size c.from.ensures c.requires.most c.min.ensures.value

pub overflow_cast-level : goal.overflow_cast-level
overflow_cast-level c = let s = stepped c in omega (arith, ints, s.1.0, s.1.1)

pub overflow_add-level : goal.overflow_add-level
overflow_add-level c =
    let s = stepped c in
    let h = c.loop-number.invariant in
    let few : c.loop-number.number-index ≤ 20000 = omega (arith, c.requires.few, c.loop-number-test.true) in
    omega (arith, ints, s.1.0, s.1.1, h.low, h.high, level-small c.args.most c.loop-number.number-index c.requires.most few)

pub loop-number-preserved : goal.loop-number-preserved
loop-number-preserved c =
    let h = c.loop-number.invariant in
    let i = c.loop-number.number-index in
    let sorted = c.args.sorted.now in
    let x = c.wide-number.ensures in
    let last : ℤ = to_z w128 c.loop-number.last-bits in
    let level : ℤ = to_z w64 c.loop-number.level-bits in
    let s = step last c.wide-number.result c.from.result c.min.result c.args.most
    (omega (arith, ints, x.value, h.after i (omega arith) c.loop-number-test.true)) x.size h.size c.from.ensures c.requires.most c.min.ensures.value in
    let few : i ≤ 20000 = omega (arith, c.requires.few, c.loop-number-test.true) in
    let next : ℤ = to_z w64 (of_z w64 (level +ℤ to_z w64 (of_z w64 (to_z w128 (of_z w128 c.min.result))))) in
    let added : next ≡ level +ℤ c.min.result = level-next level c.min.result h.low (omega (arith, ints, h.high, level-small c.args.most i c.requires.most few)) s.1.0 s.1.1 in
    let is : next ≡ level +ℤ int_min (get_or sorted i (pos 0) -ℤ last) (pos c.args.most) = added ∙ ap (λ (z : ℤ). level +ℤ z) (s.0 ∙ ap (λ (z : ℤ). int_min (z -ℤ last) (pos c.args.most)) x.value) in
    let same : get_or sorted i (pos 0) ≡ to_z w128 (of_z w128 c.wide-number.result) = omega (arith, ints, x.value, x.size.above, x.size.below) in
    subst (HasLevelled c.args.most sorted (i + 1) (to_z w128 (of_z w128 c.wide-number.result)) next) (sym c.in_ok-push.ensures.items)
    (subst (λ (z : ℤ). HasLevelled c.args.most sorted (i + 1) z next (c.loop-number.levels.items ++ next ∷ [])) same
    (levelled-next c.args.most sorted i last level next c.loop-number.levels.items c.requires.rising c.loop-number-test.true (subst (IsSized (2 ^ 63)) x.value x.size) h is))

pub overflow_sub-number : goal.overflow_sub-number
overflow_sub-number c =
    let x = c.wide-number.ensures.size in
    let last = c.loop-number.invariant.size in
    omega (arith, ints, x.above, x.below, last.above, last.below)

pub returns : goal.returns
returns c =
    record { levels = levelled-done c.args.most c.args.sorted.now c.loop-number.number-index _ _ c.loop-number.levels.items (omega (arith, c.loop-number-test.false, c.loop-number.auto.number-index-end)) c.loop-number.invariant }

pub loop-number-init : goal.loop-number-init
loop-number-init c =
    let sorted = c.args.sorted.now in
    let size = c.wide-last.ensures.size in
    let first : c.unwrap_or.result.now ≡ get_or sorted 0 (pos 0) = grind (arith, common_steps) in
    let last : to_z w128 (of_z w128 c.wide-last.result) ≡ get_or sorted 0 (pos 0) = omega (arith, ints, first, c.wide-last.ensures.value, size.above, size.below) in
    rw c.in_ok-levels.ensures.items (levelled-start c.args.most sorted _ c.requires.rising (record { above = omega (arith, ints, size.above, size.below); below = omega (arith, ints, size.above, size.below) }) last)

pub offset_bounds-sorted-number-index : goal.offset_bounds-sorted-number-index
offset_bounds-sorted-number-index c = grind (arith, common_steps)
