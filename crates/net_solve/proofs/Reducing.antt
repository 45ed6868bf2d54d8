-- Reduced costs in 64 bits, and the greatest cost.
use Rattle.std.proofs.Common.{◌≡◌, ℕ, suc, ◌+◌, ◌*◌, ◌^◌, ◌<◌, ◌≤◌, List, length, get_or, drop, max, nat_abs, ℤ, pos, negsuc, ◌+ℤ◌, ◌-ℤ◌, ◌*ℤ◌, FitsSigned, to_z, of_z, w64, ◌∙◌, ap, subst, arith}
use Rattle.std.proofs.lemmas.Int.{ints}
use Rattle.net_normal.specs.Limits.{IsSized, cost_limit}
use Rattle.net_normal.specs.declared.problem.FlowArc.{FlowArc}
use Rattle.net_normal.proofs.WholeNumbers.{sized-mul}
use Rattle.net_check.proofs.Sums.{smaller, split_at}
use Rattle.net_solve.specs.Pseudoflows.{no_arc}
use Rattle.net_solve.specs.Runs.{greatest_cost}
use Rattle.net_solve.specs.Machines.{IsDeep}

plain-factor : (n : ℕ) → n ≤ 20000 → to_z w64 (of_z w64 (to_z w64 n +ℤ pos 1)) ≡ pos (n + 1)
plain-factor n few = omega (arith, ints, few)

plain-cost : (cost : ℤ) → IsSized cost_limit cost → to_z w64 (of_z w64 cost) ≡ cost
plain-cost cost h = omega (arith, ints, h.above, h.below)

pub scaled-cost : (n : ℕ) (cost : ℤ) → n ≤ 20000 → IsSized cost_limit cost → to_z w64 (of_z w64 cost) *ℤ to_z w64 (of_z w64 (to_z w64 n +ℤ pos 1)) ≡ cost *ℤ pos (n + 1)
scaled-cost n cost few h = ap (λ (x : ℤ). x *ℤ to_z w64 (of_z w64 (to_z w64 n +ℤ pos 1))) (plain-cost cost h) ∙ ap (λ (x : ℤ). cost *ℤ x) (plain-factor n few)

factor-sized : (n : ℕ) → n ≤ 20000 → IsSized 20001 (pos (n + 1))
factor-sized n few = record { above = omega (arith, ints); below = omega (arith, ints, few) }

pub scaled-sized : (n : ℕ) (cost : ℤ) → n ≤ 20000 → IsSized cost_limit cost → IsSized (2 ^ 55) (cost *ℤ pos (n + 1))
scaled-sized n cost few h = smaller (10 ^ 12 * 20001) (2 ^ 55) (cost *ℤ pos (n + 1)) (omega arith) (sized-mul (10 ^ 12) 20001 cost (pos (n + 1)) h (factor-sized n few))

pub sum-fits : (z x p : ℤ) → z ≡ x → IsSized (2 ^ 55) x → IsDeep p → FitsSigned w64 (to_z w64 (of_z w64 z) +ℤ to_z w64 (of_z w64 p))
sum-fits z x p e h k = omega (arith, ints, e, h.above, h.below, k.above, k.below)

pub difference-fits : (z x p q : ℤ) → z ≡ x → IsSized (2 ^ 55) x → IsDeep p → IsDeep q → FitsSigned w64 (to_z w64 (of_z w64 (to_z w64 (of_z w64 z) +ℤ to_z w64 (of_z w64 p))) -ℤ to_z w64 (of_z w64 q))
difference-fits z x p q e h k l = omega (arith, ints, e, h.above, h.below, k.above, k.below, l.above, l.below)

pub reduced-value : (z x p q : ℤ) → z ≡ x → IsSized (2 ^ 55) x → IsDeep p → IsDeep q → to_z w64 (of_z w64 (to_z w64 (of_z w64 (to_z w64 (of_z w64 z) +ℤ to_z w64 (of_z w64 p))) -ℤ to_z w64 (of_z w64 q))) ≡ (x +ℤ p) -ℤ q
reduced-value z x p q e h k l = omega (arith, ints, e, h.above, h.below, k.above, k.below, l.above, l.below)

pub reduced-sized : (r x p q : ℤ) → r ≡ (x +ℤ p) -ℤ q → IsSized (2 ^ 55) x → IsDeep p → IsDeep q → IsSized (2 ^ 62) r
reduced-sized r x p q e h k l = record { above = omega (arith, ints, e, h.above, h.below, k.above, k.below, l.above, l.below); below = omega (arith, ints, e, h.above, h.below, k.above, k.below, l.above, l.below) }

-- the greatest so far with those to come is the greatest of all
pub record HasGreatest (arcs : List FlowArc) (i most : ℕ) : Type 0 where
  pub whole : max most (greatest_cost (drop i arcs)) ≡ greatest_cost arcs
  pub size : most ≤ 10 ^ 12

pub greatest-next : (arcs : List FlowArc) (i most a next : ℕ) → i < length arcs → a ≡ nat_abs (get_or arcs i no_arc).cost → a ≤ 10 ^ 12 → next ≡ max most a → HasGreatest arcs i most → HasGreatest arcs (i + 1) next
greatest-next arcs i most a next inside is small adds h =
    let one : suc i ≡ i + 1 = omega arith in
    let here : greatest_cost (drop i arcs) ≡ max (nat_abs (get_or arcs i no_arc).cost) (greatest_cost (drop (suc i) arcs)) = ap greatest_cost (split_at arcs i no_arc inside) in
    subst (λ (n : ℕ). HasGreatest arcs n next) one
    (record { whole = omega (arith, h.whole, here, is, adds); size = omega (arith, adds, h.size, small) })

pub abs-small : (x : ℤ) → IsSized cost_limit x → nat_abs x ≤ 10 ^ 12
abs-small (pos k) h = omega (arith, ints, h.below)
abs-small (negsuc k) h = omega (arith, ints, h.above)
