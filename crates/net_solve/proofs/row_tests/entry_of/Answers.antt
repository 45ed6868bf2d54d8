use Rattle.std.proofs.Common.{◌≡◌, ℕ, ◌+◌, ◌<◌, ◌^◌, true, false, length, pos, ◌+ℤ◌, ◌*ℤ◌, to_z, of_z, w64, ◌∙◌, ap, arith, vec_len}
use Rattle.std.proofs.lemmas.List.{get_or_read}
use Rattle.net_normal.specs.Limits.{IsSized, IsFlowArcOf}
use Rattle.net_normal.specs.declared.problem.FlowArc.{FlowArc}
use Rattle.net_solve.specs.Pseudoflows.{no_arc, arc_at}
use Rattle.net_solve.proofs.Reducing.{scaled-cost, scaled-sized}
use Rattle.net_solve.proofs.Scans.{entry-equal, product-fits, product-plain, product-neg, product-neg_fits, bound-plain}
use Rattle.net_solve.proofs.row_tests.entry_of.Goals.{After-len}
use Rattle.net_solve.proofs.row_tests.entry_of.Goals as goal

inside : (c : After-len) → c.args.index < length c.args.problem.now.arcs.items
inside c = omega (arith, c.requires, c.args.problem.now.arcs.ok.0)

arc_is : (c : After-len) → c.index-arc.result.now ≡ arc_at c.args.problem.now c.args.index
arc_is c = get_or_read c.args.problem.now.arcs.items _ _ (inside c) c.index-arc.ensures no_arc

fits : (c : After-len) → IsFlowArcOf (vec_len c.args.problem.now.supplies) (arc_at c.args.problem.now c.args.index)
fits c = c.args.problem.now.arcs_fit c.args.index no_arc (inside c)

product_is : (c : After-len) → to_z w64 (of_z w64 c.index-arc.result.now.cost) *ℤ to_z w64 (of_z w64 (to_z w64 c.len.result +ℤ pos 1)) ≡ (arc_at c.args.problem.now c.args.index).cost *ℤ pos (vec_len c.args.problem.now.supplies + 1)
product_is c =
    let problem = c.args.problem.now in
    ap (λ (a : FlowArc). to_z w64 (of_z w64 a.cost) *ℤ to_z w64 (of_z w64 (to_z w64 c.len.result +ℤ pos 1))) (arc_is c)
    ∙ ap (λ (n : ℕ). to_z w64 (of_z w64 (arc_at problem c.args.index).cost) *ℤ to_z w64 (of_z w64 (to_z w64 n +ℤ pos 1))) c.len.ensures
    ∙ scaled-cost (vec_len problem.supplies) (arc_at problem c.args.index).cost problem.few_nodes (fits c).cost

sized : (c : After-len) → IsSized (2 ^ 55) ((arc_at c.args.problem.now c.args.index).cost *ℤ pos (vec_len c.args.problem.now.supplies + 1))
sized c = scaled-sized (vec_len c.args.problem.now.supplies) (arc_at c.args.problem.now c.args.index).cost c.args.problem.now.few_nodes (fits c).cost

pub overflow_mul-cost : goal.overflow_mul-cost
overflow_mul-cost c = let d = (goal.at.overflow_mul-cost c).After-len in product-fits (vec_len c.args.problem.now.supplies) _ (product_is d) (sized d)

pub overflow_sub-result : goal.overflow_sub-result
overflow_sub-result c = let d = (goal.at.overflow_sub-result c).After-len in product-neg_fits _ _ (product_is d) (sized d)

pub returns-then-forwards : goal.returns-then-forwards
returns-then-forwards c =
    let d = (goal.at.returns-then-forwards c).After-len in
    let bounds = bound-plain (vec_len c.args.problem.now.supplies) (arc_at c.args.problem.now c.args.index) (fits d) in
    rw c.if-forwards.true (entry-equal _ _ c.args.index true _ _ _ _ (ap (λ (a : FlowArc). a.dst) (arc_is d)) (product-plain _ _ (product_is d) (sized d)) (ap (λ (a : FlowArc). to_z w64 (of_z w64 a.cap)) (arc_is d) ∙ bounds.1))

pub returns-else-forwards : goal.returns-else-forwards
returns-else-forwards c =
    let d = (goal.at.returns-else-forwards c).After-len in
    let bounds = bound-plain (vec_len c.args.problem.now.supplies) (arc_at c.args.problem.now c.args.index) (fits d) in
    rw c.if-forwards.false (entry-equal _ _ c.args.index false _ _ _ _ (ap (λ (a : FlowArc). a.src) (arc_is d)) (product-neg _ _ (product_is d) (sized d)) (ap (λ (a : FlowArc). to_z w64 (of_z w64 a.low)) (arc_is d) ∙ bounds.0))
