-- Where a run begins, and what its end settles.
use Rattle.std.proofs.Common.{◌≡◌, ℕ, ◌^◌, ◌<◌, ◌≤◌, Bool, List, [], ◌∷◌, length, map, replicate, get_or, Option, Some, None, IfSome, ℤ, pos, vec_len, sym, ◌∙◌, subst, arith}
use Rattle.std.proofs.lemmas.Int.{ints}
use Rattle.std.proofs.lemmas.List.{get_or-replicate, length-replicate}
use Rattle.std.specs.List.{AllZip, AllByRecursion}
use Rattle.std.proofs.lemmas.List.Elements.{recursion_from_All}
use Rattle.net_normal.specs.Limits.{IsFlowArcOf}
use Rattle.net_normal.specs.Flows.{IsWithinCapacity, cost_of}
use Rattle.net_normal.specs.declared.problem.FlowArc.{FlowArc}
use Rattle.net_normal.specs.declared.problem.Problem.{Problem}
use Rattle.std.specs.Option.{ForSome}
use Rattle.std.specs.Global.{Vec}
use Rattle.net_check.specs.Certificates.{IsOptimal, IsCertificate}
use Rattle.net_check.specs.declared.certificate.Certificate.{Certificate}
use Rattle.net_check.specs.declared.certificate.Side.{Side}
use Rattle.net_check.specs.declared.certificate.Certificate.TheVariants.{Optimal, Cut}
use Rattle.net_check.proofs.Pairs.{got, zipped-at, zipped-lengths}
use Rattle.net_solve.specs.Pseudoflows.{no_arc}
use Rattle.net_normal.proofs.NodeRuns.{slice_get-inside}
use Rattle.net_solve.specs.declared.scaling.Machine.{Machine}
use Rattle.net_solve.specs.Runs.{Reaches, at_start, start, HasEnded, excess_at, epsilon, greatest_scaled}
use Rattle.net_solve.specs.Machines.{AreDeep, AreEpsilonOptimal, IsConsistent, state_of}
use Rattle.net_solve.specs.Rounding.{IsRounded}
use Rattle.net_solve.specs.ScalingRuns.{IsEnded, HasFlows, IsCounted, IsFromZero, IsScalingRun}
use Rattle.net_solve.proofs.Carrying.{all-within}
use Rattle.net_solve.proofs.Phases.{phases-few}
use Rattle.net_solve.proofs.Rounded.{all-complementary}

lows-each : (nodes : ℕ) (arcs : List FlowArc) → AllByRecursion (IsFlowArcOf nodes) arcs → AllZip IsWithinCapacity arcs (map (λ arc. arc.low) arcs)
lows-each nodes [] h = tt
lows-each nodes (a ∷ arcs) h = (record { low = omega (arith, ints); cap = h.0.room }, lows-each nodes arcs h.1)

pub lows-within : (problem : Problem) → AllZip IsWithinCapacity problem.arcs.items (map (λ arc. arc.low) problem.arcs.items)
lows-within problem = lows-each (vec_len problem.supplies) problem.arcs.items (recursion_from_All (IsFlowArcOf (vec_len problem.supplies)) problem.arcs.items problem.arcs_fit)

pub standing-start : (problem : Problem) (m : Machine) → m.carried.flows.items ≡ map (λ (arc : FlowArc). arc.low) problem.arcs.items → m.potentials.items ≡ replicate (vec_len problem.supplies) (pos 0) → length m.carried.excess.items ≡ vec_len problem.supplies
    → ((v : ℕ) → v < vec_len problem.supplies → get_or m.carried.excess.items v (pos 0) ≡ excess_at problem m.carried.flows.items v) → m.phases ≡ 0 → m.steps ≡ 0 → IsConsistent problem m
standing-start problem m flows potentials count balance phases steps =
    let n = vec_len problem.supplies in
    let within = subst (AllZip IsWithinCapacity problem.arcs.items) (sym flows) (lows-within problem) in
    record {
      carried = record {
        flows_count = zipped-lengths IsWithinCapacity problem.arcs.items m.carried.flows.items within ∙ sym problem.arcs.ok.0;
        excess_count = count;
        capacity = λ i l. zipped-at IsWithinCapacity problem.arcs.items m.carried.flows.items within i no_arc (pos 0) (omega (arith, l, problem.arcs.ok.0));
        balance = balance;
      };
      deep = subst (AreDeep n) (sym potentials) (record {
        count = length-replicate n (pos 0);
        each = λ v l. let is = get_or-replicate n v (pos 0) (pos 0) l in record { above = omega (arith, ints, is); below = omega (arith, ints, is) };
      });
      run = subst (λ (k : ℕ). Reaches problem k m.steps (state_of m)) (sym phases) (subst (λ (k : ℕ). Reaches problem 0 k (state_of m)) (sym steps)
          (subst (λ (ys : List ℤ). Reaches problem 0 0 (record { flows = ys; potentials = m.potentials.items })) (sym flows)
          (subst (λ (ps : List ℤ). Reaches problem 0 0 (record { flows = map (λ (arc : FlowArc). arc.low) problem.arcs.items; potentials = ps })) (sym potentials) at_start)));
      within = omega (arith, steps);
    }

pub last-epsilon : (problem : Problem) (m : Machine) → IsEnded problem m → epsilon problem m.phases ≡ 1
last-epsilon problem m h = omega (arith, ints, h.running.epsilon_is, h.last)

pub optimal-end : (problem : Problem) (m : Machine) (whole : List ℤ) (value : ℤ) → IsEnded problem m → IsRounded m.potentials.items whole → value ≡ cost_of problem m.carried.flows.items → IsOptimal problem value m.carried.flows.items whole
optimal-end problem m whole value h r is =
    let s = h.running.standing in
    record {
      one_a_node = r.count ∙ s.deep.count;
      feasible = record {
        capacity = all-within problem m.carried.flows.items m.carried.excess.items s.carried;
        balance = λ v supply e.
            let l : v < vec_len problem.supplies = omega (arith, slice_get-inside problem.supplies.items v supply e, problem.supplies.ok.0) in
            omega (arith, ints, h.balanced v l, got problem.supplies.items v supply (pos 0) e);
      };
      cost = is;
      slackness = all-complementary problem m.carried.flows.items m.potentials.items whole s.deep.count (λ v l. (s.deep.each v l).below) s.carried.flows_count s.carried.capacity
          (subst (λ (e : ℕ). AreEpsilonOptimal problem e m.carried.flows.items m.potentials.items) (last-epsilon problem m h) h.running.near) r;
    }

few-of : (problem : Problem) (m : Machine) → IsConsistent problem m → (digits : ℕ) → 1 ≤ digits → greatest_scaled problem < 2 ^ digits → m.phases ≤ digits
few-of problem m h digits some small = phases-few problem digits (omega (arith, some)) small m.phases m.steps (state_of m) h.run

-- a run that broke off
pub run-off : (problem : Problem) (m : Machine) (budget : ℕ) → IsConsistent problem m → m.budget ≡ budget → IsScalingRun problem budget (record { answer = None; phases = m.phases; steps = m.steps })
run-off problem m budget h is = record {
  certificate = λ x e. cc;
  counted = (state_of m, h.run);
  within = omega (arith, h.within, is);
  from_zero = tt;
  few = few-of problem m h;
}

counted-of : (problem : Problem) (m : Machine) (answer : Option Certificate) → IsEnded problem m → IfSome answer (HasFlows m.carried.flows.items) → IsCounted problem m.phases m.steps answer
counted-of problem m None h same = (state_of m, h.running.standing.run)
counted-of problem m (Some (Optimal value flows potentials)) h same =
    subst (HasEnded problem m.phases m.steps) (sym same) (record {
      potentials = m.potentials.items;
      run = h.running.standing.run;
      some = h.running.some;
      last = last-epsilon problem m h;
      balanced = h.balanced;
    })
counted-of problem m (Some (Cut flags side)) h same = absurd same

-- a run whose last phase has ended
pub run-ended : (problem : Problem) (m : Machine) (budget : ℕ) (answer : Option Certificate) → IsConsistent problem m → m.budget ≡ budget → IsEnded problem m → ForSome answer (IsCertificate problem) → IfSome answer (HasFlows m.carried.flows.items) → IfSome answer IsFromZero → IsScalingRun problem budget (record { answer = answer; phases = m.phases; steps = m.steps })
run-ended problem m budget answer h is ended certificate same zero = record {
  certificate = certificate;
  counted = counted-of problem m answer ended same;
  within = omega (arith, h.within, is);
  from_zero = zero;
  few = few-of problem m h;
}

-- a run that need not begin
pub run-cut : (problem : Problem) (budget : ℕ) (flags : Vec Bool) (side : Side) → IsCertificate problem (Cut flags side) → IsScalingRun problem budget (record { answer = Some (Cut flags side); phases = 0; steps = 0 })
run-cut problem budget flags side certificate = record {
  certificate = λ x e. let equal : Cut flags side ≡ x = cc in subst (IsCertificate problem) equal certificate;
  counted = (start problem, at_start);
  within = omega arith;
  from_zero = tt;
  few = λ digits some small. omega arith;
}
