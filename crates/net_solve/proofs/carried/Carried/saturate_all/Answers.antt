use Rattle.std.proofs.Common.{ℕ, get_or, ℤ, pos, sym, ◌∙◌, subst, below_more, arith}
use Rattle.net_solve.specs.Pseudoflows.{arc_at}
use Rattle.net_solve.specs.Runs.{Saturates, reduced, factor}
use Rattle.net_solve.proofs.carried.Carried.saturate_all.Goals as goal

pub loop-index-preserved : goal.loop-index-preserved
loop-index-preserved c =
    let problem = c.args.problem.now in
    let h = c.loop-index.invariant in
    let i = c.loop-index.index in
    let old = c.args.self.now.flows.items in
    let now = c.saturate.new.self.flows.items in
    let P : ℕ → ℤ → ℤ → Type 0 = λ k y z. Saturates (reduced (factor problem) c.args.potentials.now (arc_at problem k)) (arc_at problem k) y z in
    record {
      carried = c.saturate.ensures.carried;
      done = below_more _ _ (λ k l. subst (P k (get_or old k (pos 0))) (sym (c.saturate.ensures.others k (omega (arith, l)))) (h.done k l))
          (subst (λ (y : ℤ). P i y (get_or now i (pos 0))) (h.left i (omega arith)) c.saturate.ensures.here);
      left = λ k l. c.saturate.ensures.others k (omega (arith, l)) ∙ h.left k (omega (arith, l));
    }

pub loop-index-init : goal.loop-index-init
loop-index-init c = grind (arith)
