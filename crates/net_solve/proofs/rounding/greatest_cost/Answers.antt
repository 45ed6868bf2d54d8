use Rattle.std.proofs.Common.{◌≡◌, ◌∙◌, ℤ, drop, get_or, nat_abs, to_z, of_z, w64, ap, arith}
use Rattle.std.proofs.lemmas.Int.{ints}
use Rattle.std.proofs.lemmas.List.{drop_all}
use Rattle.net_solve.specs.Pseudoflows.{no_arc}
use Rattle.net_solve.specs.Runs.{greatest_cost}
use Rattle.net_solve.proofs.Reducing.{greatest-next, abs-small}
use Rattle.net_solve.proofs.rounding.greatest_cost.Goals as goal

pub loop-arc-init : goal.loop-arc-init
loop-arc-init c = record { whole = omega arith; size = omega arith }

pub loop-arc-preserved : goal.loop-arc-preserved
loop-arc-preserved c =
    let arcs = c.args.arcs.now in
    let i = c.loop-arc.arc-index in
    let x : ℤ = (get_or arcs i no_arc).cost in
    let size = c.requires i no_arc c.loop-arc-test.true in
    let plain : to_z w64 (of_z w64 x) ≡ x = omega (arith, ints, size.above, size.below) in
    let abs : c.unsigned_abs.result ≡ nat_abs x = c.unsigned_abs.ensures.value ∙ ap nat_abs plain in
    greatest-next arcs i c.loop-arc.most c.unsigned_abs.result c.max-most.result c.loop-arc-test.true abs (let small = abs-small x size in omega (arith, abs, small)) (c.max-most.ensures) c.loop-arc.invariant

pub returns-clause-value : goal.returns-clause-value
returns-clause-value c =
    let h = c.loop-arc.invariant in
    let none : greatest_cost (drop c.loop-arc.arc-index c.args.arcs.now) ≡ 0 = ap greatest_cost (drop_all c.loop-arc.arc-index c.args.arcs.now (omega (arith, c.loop-arc-test.false))) in
    omega (arith, h.whole, none)

pub returns-clause-size : goal.returns-clause-size
returns-clause-size c = c.loop-arc.invariant.size
