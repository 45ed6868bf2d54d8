use Rattle.std.proofs.Common.{◌≡◌, ◌∙◌, ℤ, get_or, to_z, of_z, w64, ap, subst, arith}
use Rattle.std.proofs.lemmas.Grind.{common_steps}
use lib.IntN.{nat_abs}
use Rattle.std.proofs.lemmas.Int.{ints}
use Rattle.std.proofs.lemmas.List.{get_or_default}
use Rattle.net_normal.specs.Limits.{IsSized}
use Rattle.net_normal.specs.declared.problem.FlowArc.{FlowArc}
use Rattle.net_solve.specs.Pseudoflows.{no_arc}
use Rattle.net_solve.proofs.Costs.{bounds-next, of-size}
use Rattle.net_solve.proofs.primal_dual.greatest_cost.Goals as goal

pub loop-arc-preserved : goal.loop-arc-preserved
loop-arc-preserved c =
    let h = c.loop-arc.invariant in
    let arcs = c.args.arcs.now in
    let i = c.loop-arc.arc-index in
    let x : ℤ = (get_or arcs i no_arc).cost in
    let size = c.requires i no_arc c.loop-arc-test.true in
    let plain : to_z w64 (of_z w64 x) ≡ x = omega (arith, ints, size.above, size.below) in
    let abs : c.unsigned_abs.result ≡ nat_abs x = c.unsigned_abs.ensures.value ∙ ap nat_abs plain in
    record {
      bounds = bounds-next arcs i c.loop-arc.most c.unsigned_abs.result c.max-most.result c.max-most.ensures (omega (arith, abs)) h.bounds;
      least = λ most all. omega (arith, c.max-most.ensures, abs, of-size x most (all i (omega arith)), h.least most (λ k l. all k (omega (arith, l))));
    }

pub returns-clause-bounds : goal.returns-clause-bounds
returns-clause-bounds c = λ k d l. subst (λ (a : FlowArc). IsSized c.loop-arc.most a.cost) (get_or_default c.args.arcs.now k no_arc d l) (c.loop-arc.invariant.bounds k (omega (arith, l, c.loop-arc-test.false)))

pub returns-clause-least : goal.returns-clause-least
returns-clause-least c = λ most all. c.loop-arc.invariant.least most (λ k l. all k no_arc (omega (arith, l, c.loop-arc.auto.arc-index-end)))

pub offset_bounds-arcs-arc-index : goal.offset_bounds-arcs-arc-index
offset_bounds-arcs-arc-index c = grind (arith, common_steps)
