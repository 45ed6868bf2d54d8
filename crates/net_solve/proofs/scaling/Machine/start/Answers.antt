use Rattle.std.proofs.Common.{◌≡◌, ℕ, ℤ, List, rules, map, replicate, pos, refl, ◌∙◌, ap, sym, subst}
use Rattle.std.specs.List.{AllZip}
use Rattle.net_normal.specs.Flows.{IsWithinCapacity}
use Rattle.net_normal.specs.declared.problem.FlowArc.{FlowArc}
use Rattle.net_solve.specs.Runs.{excess_at}
use Rattle.net_solve.proofs.Ends.{lows-within, standing-start}
use Rattle.net_solve.proofs.scaling.Machine.start.Goals as goal

pub excess_of-requires : goal.excess_of-requires
excess_of-requires c =
    let arcs : map (λ (arc : FlowArc). arc.low) c.deref.result.now ≡ map (λ (arc : FlowArc). arc.low) c.args.problem.now.arcs.items = ap (map (λ (arc : FlowArc). arc.low)) c.deref.ensures.value in
    subst (AllZip IsWithinCapacity c.args.problem.now.arcs.items) (sym (c.deref-2.ensures.value ∙ c.in_ok-flows.ensures ∙ arcs)) (lows-within c.args.problem.now)

pub returns-clause-standing : goal.returns-clause-standing
returns-clause-standing c =
    let problem = c.args.problem.now in
    let arcs : map (λ (arc : FlowArc). arc.low) c.deref.result.now ≡ map (λ (arc : FlowArc). arc.low) problem.arcs.items = ap (map (λ (arc : FlowArc). arc.low)) c.deref.ensures.value in
    let zeros : c.in_ok-potentials.potentials.items ≡ replicate c.len.result (pos 0) = search rules in
    standing-start problem _ (c.in_ok-flows.ensures ∙ arcs) (zeros ∙ ap (λ (n : ℕ). replicate n (pos 0)) c.len.ensures) (sym c.in_ok-excess.excess.ok.0 ∙ c.in_ok-excess.ensures.len)
    (λ v l. c.in_ok-excess.ensures.value v l ∙ ap (λ (ys : List ℤ). excess_at problem ys v) c.deref-2.ensures.value) refl refl
