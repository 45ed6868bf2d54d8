-- What every run keeps, wherever it breaks off: flows within their bounds, and no residual arc of a reduced cost below -e.
use Rattle.std.proofs.Common.{◌≡◌, ℕ, zero, suc, ◌+◌, ◌%◌, ◌<◌, cond, List, length, map, get_or, inl, inr, ℤ, pos, negsuc, ◌+ℤ◌, ◌-ℤ◌, ◌≤ℤ◌, neg_ℤ, vec_len, nat_abs, refl, sym, ◌∙◌, ap, subst, arith}
use Rattle.std.proofs.lemmas.Int.{ints}
use Rattle.std.proofs.lemmas.List.{get_or-map, length-map, get_or-replicate, length-replicate, length-set}
use Rattle.net_normal.specs.Flows.{IsWithinCapacity, IsFeasibleFlow, cost_of}
use Rattle.net_normal.specs.Limits.{IsFlowArcOf}
use Rattle.net_normal.proofs.NodeRuns.{slice_get-inside}
use Rattle.net_normal.specs.declared.problem.FlowArc.{FlowArc}
use Rattle.net_normal.specs.declared.problem.Problem.{Problem}
use Rattle.net_check.proofs.Pairs.{got, zipped-at, zipped-lengths}
use Rattle.net_check.specs.Certificates.{IsOptimal}
use Rattle.net_check.proofs.LeastCost.{optimal-least}
use Rattle.net_solve.specs.Rounding.{IsFree, IsRounded, level}
use Rattle.net_solve.proofs.Pigeons.{absent, absent-at}
use Rattle.net_solve.proofs.Rounded.{all-complementary}
use Rattle.net_solve.specs.Pseudoflows.{no_arc, arc_at, changed}
use Rattle.net_solve.proofs.SlackScanning.{zipped-from}
use Rattle.net_solve.specs.Runs.{State, Reaches, at_start, by_phase, by_step, HasEnded, IsPush, IsLowering, IsLeastOut, Begins, Saturates, start, factor, reduced, epsilon}
use Rattle.net_solve.specs.Machines.{AreEpsilonOptimal}
use Rattle.net_solve.proofs.Carrying.{set-cases}
use Rattle.net_solve.proofs.Stepping.{pushed-within, near-pushed}
use Rattle.net_solve.proofs.Sinking.{near-lowered}
use Rattle.net_solve.proofs.Phases.{near-begun}
use Rattle.net_solve.proofs.Ends.{lows-within}

pub record IsConsistent (problem : Problem) (phases : ℕ) (state : State) : Type 0 where
  pub flows_count : length state.flows ≡ vec_len problem.arcs
  pub potentials_count : length state.potentials ≡ vec_len problem.supplies
  pub capacity : (i : ℕ) → i < vec_len problem.arcs → IsWithinCapacity (arc_at problem i) (get_or state.flows i (pos 0))
  pub below : (v : ℕ) → v < vec_len problem.supplies → get_or state.potentials v (pos 0) ≤ℤ pos 0
  pub near : 0 < phases → AreEpsilonOptimal problem (epsilon problem phases) state.flows state.potentials

saturated-within : (nodes : ℕ) (cost old new : ℤ) (arc : FlowArc) → IsFlowArcOf nodes arc → Saturates cost arc old new → IsWithinCapacity arc old → IsWithinCapacity arc new
saturated-within nodes (pos zero) old new arc fits s h = subst (IsWithinCapacity arc) (sym (s.level refl)) h
saturated-within nodes (pos (suc n)) old new arc fits s h = let e = s.positive (omega (arith, ints)) in record { low = omega (arith, ints, e); cap = omega (arith, ints, e, fits.room) }
saturated-within nodes (negsuc n) old new arc fits s h = let e = s.negative (omega (arith, ints)) in record { low = omega (arith, ints, e, fits.room); cap = omega (arith, ints, e) }

kept-start : (problem : Problem) → IsConsistent problem 0 (start problem)
kept-start problem =
    let within = lows-within problem in
    record {
      flows_count = zipped-lengths IsWithinCapacity problem.arcs.items (map (λ (arc : FlowArc). arc.low) problem.arcs.items) within ∙ sym problem.arcs.ok.0;
      potentials_count = length-replicate (vec_len problem.supplies) (pos 0);
      capacity = λ i l. zipped-at IsWithinCapacity problem.arcs.items (map (λ (arc : FlowArc). arc.low) problem.arcs.items) within i no_arc (pos 0) (omega (arith, l, problem.arcs.ok.0));
      below = λ v l. let is = get_or-replicate (vec_len problem.supplies) v (pos 0) (pos 0) l in omega (arith, ints, is);
      near = λ some. absurd (omega (arith, some));
    }

kept-begun : (problem : Problem) (phases : ℕ) (old new : State) → IsConsistent problem phases old → Begins problem old new → IsConsistent problem (suc phases) new
kept-begun problem phases old new h b = record {
  flows_count = b.count;
  potentials_count = ap length b.potentials ∙ h.potentials_count;
  capacity = λ i l. saturated-within (vec_len problem.supplies) (reduced (factor problem) old.potentials (arc_at problem i)) (get_or old.flows i (pos 0)) (get_or new.flows i (pos 0)) (arc_at problem i) (problem.arcs_fit i no_arc (omega (arith, l, problem.arcs.ok.0))) (b.arcs i l) (h.capacity i l);
  below = subst (λ (ps : List ℤ). (v : ℕ) → v < vec_len problem.supplies → get_or ps v (pos 0) ≤ℤ pos 0) (sym b.potentials) h.below;
  near = λ _. subst (AreEpsilonOptimal problem (epsilon problem (suc phases)) new.flows) (sym b.potentials) (near-begun problem (epsilon problem (suc phases)) old new b);
}

kept-pushed : (problem : Problem) (phases : ℕ) (old new : State) → 0 < phases → IsConsistent problem phases old → IsPush problem old new → IsConsistent problem phases new
kept-pushed problem phases old new some h s =
    let i = s.index in
    let a = arc_at problem i in
    let d : ℤ = cond s.forwards s.amount (neg_ℤ s.amount) in
    let inside : i < length old.flows = omega (arith, s.inside, h.flows_count) in
    record {
      flows_count = ap length s.flows ∙ length-set old.flows i (get_or old.flows i (pos 0) +ℤ d) ∙ h.flows_count;
      potentials_count = ap length s.potentials ∙ h.potentials_count;
      capacity = λ k l. subst (λ (ys : List ℤ). IsWithinCapacity (arc_at problem k) (get_or ys k (pos 0))) (sym s.flows)
          (set-cases (λ j y. IsWithinCapacity (arc_at problem j) y) old.flows i (get_or old.flows i (pos 0) +ℤ d) (pos 0) k inside (pushed-within a (get_or old.flows i (pos 0)) s.amount s.forwards (h.capacity i s.inside) s.some s.room) (λ _. h.capacity k l));
      below = subst (λ (ps : List ℤ). (v : ℕ) → v < vec_len problem.supplies → get_or ps v (pos 0) ≤ℤ pos 0) (sym s.potentials) h.below;
      near = λ _. subst (λ (ps : List ℤ). AreEpsilonOptimal problem (epsilon problem phases) new.flows ps) (sym s.potentials) (subst (λ (ys : List ℤ). AreEpsilonOptimal problem (epsilon problem phases) ys old.potentials) (sym s.flows)
          (near-pushed problem (epsilon problem phases) old.flows old.potentials i s.forwards s.amount (h.near some) s.inside inside s.some s.room s.negative));
    }

kept-lowered : (problem : Problem) (phases : ℕ) (old new : State) → 0 < phases → IsConsistent problem phases old → IsLowering problem (epsilon problem phases) old new → IsConsistent problem phases new
kept-lowered problem phases old new some h s =
    let v = s.node in
    let left = subst (λ (ys : List ℤ). IsLeastOut problem (record { flows = ys; potentials = changed old.potentials v (neg_ℤ s.amount) }) v (neg_ℤ (pos (epsilon problem phases)))) s.flows
    (subst (λ (ps : List ℤ). IsLeastOut problem (record { flows = new.flows; potentials = ps }) v (neg_ℤ (pos (epsilon problem phases)))) s.potentials s.left) in
    record {
      flows_count = ap length s.flows ∙ h.flows_count;
      potentials_count = ap length s.potentials ∙ length-set old.potentials v (get_or old.potentials v (pos 0) +ℤ neg_ℤ s.amount) ∙ h.potentials_count;
      capacity = λ k l. subst (λ (ys : List ℤ). IsWithinCapacity (arc_at problem k) (get_or ys k (pos 0))) (sym s.flows) (h.capacity k l);
      below = λ u l. subst (λ (ps : List ℤ). get_or ps u (pos 0) ≤ℤ pos 0) (sym s.potentials)
          (set-cases (λ j x. x ≤ℤ pos 0) old.potentials v (get_or old.potentials v (pos 0) +ℤ neg_ℤ s.amount) (pos 0) u (omega (arith, h.potentials_count, s.inside)) (omega (arith, ints, h.below v s.inside, s.some)) (λ _. h.below u l));
      near = λ _. subst (λ (ps : List ℤ). AreEpsilonOptimal problem (epsilon problem phases) new.flows ps) (sym s.potentials) (subst (λ (ys : List ℤ). AreEpsilonOptimal problem (epsilon problem phases) ys (changed old.potentials v (neg_ℤ s.amount))) (sym s.flows)
          (near-lowered problem old.flows old.potentials v (epsilon problem phases) s.amount h.potentials_count s.inside s.some (h.near some) left));
    }

pub kept : (problem : Problem) (phases steps : ℕ) (state : State) → Reaches problem phases steps state → IsConsistent problem phases state
kept problem zero zero state at_start = kept-start problem
kept problem zero (suc s) state run = elim run [ ]
kept problem (suc p) steps state (by_phase run may begins) = kept-begun problem p _ state (kept problem p steps _ run) begins
kept problem (suc p) (suc s) state (by_step run (inl push)) = kept-pushed problem (suc p) _ state (omega arith) (kept problem (suc p) s _ run) push
kept problem (suc p) (suc s) state (by_step run (inr lowering)) = kept-lowered problem (suc p) _ state (omega arith) (kept problem (suc p) s _ run) lowering

-- the flows with which a last phase ends are feasible, and over no residual arc is there a reduced cost below -1
pub ended-feasible : (problem : Problem) (phases steps : ℕ) (flows : List ℤ) → HasEnded problem phases steps flows → IsFeasibleFlow problem flows
ended-feasible problem phases steps flows h =
    let k = kept problem phases steps _ h.run in
    record {
      capacity = zipped-from IsWithinCapacity problem.arcs.items flows (omega (arith, k.flows_count, problem.arcs.ok.0)) (λ i l. k.capacity i (omega (arith, l, problem.arcs.ok.0)));
      balance = λ v supply e.
          let l : v < vec_len problem.supplies = omega (arith, slice_get-inside problem.supplies.items v supply e, problem.supplies.ok.0) in
          omega (arith, ints, h.balanced v l, got problem.supplies.items v supply (pos 0) e);
    }

pub ended-near : (problem : Problem) (phases steps : ℕ) (flows : List ℤ) (h : HasEnded problem phases steps flows) → AreEpsilonOptimal problem 1 flows h.potentials
ended-near problem phases steps flows h = subst (λ (e : ℕ). AreEpsilonOptimal problem e flows h.potentials) h.last ((kept problem phases steps _ h.run).near h.some)

-- potentials that are not above 0 can be rounded
free-of : (potentials : List ℤ) → (q : ℕ) × IsFree potentials q
free-of potentials =
    let f = length potentials + 1 in
    let residues : List ℕ = map (λ (x : ℤ). nat_abs x % f) potentials in
    let count : length residues ≡ length potentials = length-map potentials (λ (x : ℤ). nat_abs x % f) in
    let found = absent f residues (omega (arith, count)) in (
      found.0,
      record {
        inside = found.1;
        not_taken = λ v l e. absent-at found.0 residues found.2 v 0 (omega (arith, count, l)) (get_or-map (λ (x : ℤ). nat_abs x % f) potentials v (pos 0) 0 l ∙ e);
      },
    )

pub rounded-of : (potentials : List ℤ) → (whole : List ℤ) × IsRounded potentials whole
rounded-of potentials =
    let f = length potentials + 1 in
    let free = free-of potentials in
    let rounded : ℤ → ℤ = λ x. pos 0 -ℤ pos (level f free.0 x) in (
      map rounded potentials,
      record {
        free = free.0;
        top = 0;
        is_free = free.1;
        count = length-map potentials rounded;
        each = λ v l. get_or-map rounded potentials v (pos 0) (pos 0) l;
      },
    )

pub ended-optimal : (problem : Problem) (phases steps : ℕ) (flows : List ℤ) → HasEnded problem phases steps flows → (whole : List ℤ) × IsOptimal problem (cost_of problem flows) flows whole
ended-optimal problem phases steps flows h =
    let k = kept problem phases steps _ h.run in
    let r = rounded-of h.potentials in (
      r.0,
      record {
        one_a_node = r.1.count ∙ k.potentials_count;
        feasible = ended-feasible problem phases steps flows h;
        cost = refl;
        slackness = all-complementary problem flows h.potentials r.0 k.potentials_count k.below k.flows_count k.capacity (ended-near problem phases steps flows h) r.1;
      },
    )

-- the flows with which any last phase ends cost least
pub ended-least : (problem : Problem) (phases steps : ℕ) (flows others : List ℤ) → HasEnded problem phases steps flows → IsFeasibleFlow problem others → cost_of problem flows ≤ℤ cost_of problem others
ended-least problem phases steps flows others h feasible = let o = ended-optimal problem phases steps flows h in optimal-least problem (cost_of problem flows) flows o.0 others o.1 feasible
