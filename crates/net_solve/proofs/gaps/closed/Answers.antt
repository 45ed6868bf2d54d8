use Rattle.std.proofs.Common.{◌≡◌, ◌*◌, ◌^◌, ℤ, pos, List, length, get_or, sym, ◌∙◌, ap, subst, arith}
use Rattle.std.proofs.lemmas.Grind.{common_steps}
use Rattle.net_solve.specs.Pseudoflows.{AreFromTo, AreLevelsOf, IsRising, StandsIn, HasLevelOf}
use Rattle.net_solve.proofs.Closing.{all-closer, all-sized, levels-small, plain-level}
use Rattle.net_solve.proofs.PushedFlow.{pushed}
use Rattle.net_solve.proofs.gaps.closed.Goals as goal

pub returns-clause-closer : goal.returns-clause-closer
returns-clause-closer c =
    let levels = subst (λ (xs : List ℤ). AreLevelsOf c.args.most xs c.in_ok-levels.levels.items) c.deref.ensures.value c.in_ok-levels.ensures.levels in
    all-closer c.args.most c.in_ok-sorted.sorted.items c.in_ok-levels.levels.items c.args.potentials.now c.loop-potential.result.items levels
    (λ v l. c.loop-potential.invariant.each v (omega (arith, l, c.loop-potential-test.false)))

pub returns-clause-size : goal.returns-clause-size
returns-clause-size c =
    let levels = subst (λ (xs : List ℤ). AreLevelsOf c.args.most xs c.in_ok-levels.levels.items) c.deref.ensures.value c.in_ok-levels.ensures.levels in
    all-sized c.args.most c.in_ok-sorted.sorted.items c.in_ok-levels.levels.items c.args.potentials.now c.loop-potential.result.items
    (omega (arith, c.in_ok-sorted.ensures.len, c.in_ok-sorted.sorted.ok.0))
    (omega (arith, c.loop-potential.invariant.count, c.loop-potential-test.false, c.loop-potential.auto.potential-index-end, c.loop-potential.result.ok.0)) levels
    (λ v l. c.loop-potential.invariant.each v (omega (arith, l, c.loop-potential-test.false)))

pub levels_of-requires-clause-rising : goal.levels_of-requires-clause-rising
levels_of-requires-clause-rising c = subst IsRising (sym c.deref.ensures.value) c.in_ok-sorted.ensures.rising

pub loop-potential-init : goal.loop-potential-init
loop-potential-init c = record { count = c.in_ok-result.ensures.len; each = λ v l. absurd (omega (arith, l)) }

pub level_of-requires-clause-levels : goal.level_of-requires-clause-levels
level_of-requires-clause-levels c =
    omega (arith, ap length c.deref-in-loop-potential-2.ensures.value, ap length c.deref-in-loop-potential.ensures.value, ap length c.deref.ensures.value, c.in_ok-levels.ensures.levels.count)

pub level_of-requires-clause-rising : goal.level_of-requires-clause-rising
level_of-requires-clause-rising c = subst IsRising (sym c.deref-in-loop-potential.ensures.value) c.in_ok-sorted.ensures.rising

pub level_of-requires-clause-known : goal.level_of-requires-clause-known
level_of-requires-clause-known c =
    let i = c.loop-potential.potential-index in
    subst (λ (xs : List ℤ). StandsIn xs (get_or c.args.potentials.now i (pos 0))) (sym c.deref-in-loop-potential.ensures.value) (c.in_ok-sorted.ensures.same i c.loop-potential-test.true)

pub level_of-requires-clause-size : goal.level_of-requires-clause-size
level_of-requires-clause-size c =
    subst (AreFromTo (2 * 10 ^ 16)) (sym c.deref-in-loop-potential-2.ensures.value)
    (levels-small c.args.most c.deref.result.now c.in_ok-levels.levels.items c.requires.most (omega (arith, c.deref.ensures.len, c.in_ok-sorted.ensures.len, c.requires.few)) c.in_ok-levels.ensures.levels)

pub loop-potential-preserved : goal.loop-potential-preserved
loop-potential-preserved c =
    let h = c.loop-potential.invariant in
    let i = c.loop-potential.potential-index in
    let xs = c.loop-potential.result.items in
    let number : ℤ = get_or c.args.potentials.now i (pos 0) in
    let small = levels-small c.args.most c.deref.result.now c.in_ok-levels.levels.items c.requires.most (omega (arith, c.deref.ensures.len, c.in_ok-sorted.ensures.len, c.requires.few)) c.in_ok-levels.ensures.levels in
    let count : length c.in_ok-levels.levels.items ≡ length c.in_ok-sorted.sorted.items = c.in_ok-levels.ensures.levels.count ∙ ap length c.deref.ensures.value in
    let level = subst (λ (ys : List ℤ). HasLevelOf c.in_ok-sorted.sorted.items ys number c.level_of.result) c.deref-in-loop-potential-2.ensures.value
    (subst (λ (ys : List ℤ). HasLevelOf ys c.deref-in-loop-potential-2.result.now number c.level_of.result) c.deref-in-loop-potential.ensures.value c.level_of.ensures) in
    rw c.in_ok-push.ensures.items (record {
      count = omega (arith, c.in_ok-push.ensures.len, h.count);
      each = pushed (λ k z. HasLevelOf c.in_ok-sorted.sorted.items c.in_ok-levels.levels.items (get_or c.args.potentials.now k (pos 0)) z) xs _ (pos 0) i (omega (arith, h.count, c.loop-potential.result.ok.0)) h.each (plain-level c.in_ok-sorted.sorted.items c.in_ok-levels.levels.items number c.level_of.result count small level);
    })

pub returns-clause-len : goal.returns-clause-len
returns-clause-len c = omega (arith, c.loop-potential.invariant.count, c.loop-potential-test.false, c.loop-potential.auto.potential-index-end)

pub offset_bounds-potentials-potential-index : goal.offset_bounds-potentials-potential-index
offset_bounds-potentials-potential-index c = grind (arith, common_steps)

pub levels_of-requires-clause-most : goal.levels_of-requires-clause-most
levels_of-requires-clause-most c = grind (arith, common_steps)

pub levels_of-requires-clause-few : goal.levels_of-requires-clause-few
levels_of-requires-clause-few c = grind (arith, common_steps)
