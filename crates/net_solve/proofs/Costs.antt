-- The greatest size of a cost, and potentials of that many times the nodes.
use Rattle.std.proofs.Common.{◌≡◌, ℕ, zero, suc, ◌+◌, ◌*◌, ◌<◌, ◌≤◌, List, length, get_or, inl, inr, ℤ, pos, negsuc, All, vec_len, max, sym, subst, arith}
use lib.IntN.{nat_abs}
use Rattle.std.proofs.lemmas.Int.{ints}
use Rattle.std.proofs.lemmas.Bool.{cases_lt}
use Rattle.std.proofs.lemmas.List.{get_or_default}
use Rattle.net_normal.specs.Limits.{IsSized}
use Rattle.net_normal.specs.declared.problem.Problem.{Problem}
use Rattle.net_check.specs.declared.certificate.Certificate.{Certificate}
use Rattle.net_check.specs.declared.certificate.Certificate.TheVariants.{Optimal, Cut}
use Rattle.net_solve.specs.Bounds.{HasPotentials, HasSmallPotentials}
use Rattle.net_normal.specs.declared.problem.FlowArc.{FlowArc}
use Rattle.net_check.proofs.Sums.{smaller}
use Rattle.net_solve.specs.Pseudoflows.{AreFromTo, no_arc}

pub size-of : (x : ℤ) (m : ℕ) → nat_abs x ≤ m → IsSized m x
size-of (pos n) m l = record { above = omega (arith, ints, l); below = omega (arith, ints, l) }
size-of (negsuc n) m l = record { above = omega (arith, ints, l); below = omega (arith, ints, l) }

pub of-size : (x : ℤ) (m : ℕ) → IsSized m x → nat_abs x ≤ m
of-size (pos n) m h = omega (arith, ints, h.below)
of-size (negsuc n) m h = omega (arith, ints, h.above)

pub bounds-next : (arcs : List FlowArc) (i m a most : ℕ) → most ≡ max m a → nat_abs (get_or arcs i no_arc).cost ≤ a → ((k : ℕ) → k < i → IsSized m (get_or arcs k no_arc).cost) → (k : ℕ) → k < i + 1 → IsSized most (get_or arcs k no_arc).cost
bounds-next arcs i m a most is here h k l = elim (cases_lt k i) as (λ _. IsSized most (get_or arcs k no_arc).cost) [
  | inl b ↦ smaller m most (get_or arcs k no_arc).cost (omega (arith, is)) (h k b)
  | inr b ↦
      let e : i ≡ k = omega (arith, l, b) in
      subst (λ (n : ℕ). IsSized most (get_or arcs n no_arc).cost) e (size-of (get_or arcs i no_arc).cost most (omega (arith, is, here)))
]

mul-le : (n a b : ℕ) → a ≤ b → n * a ≤ n * b
mul-le zero a b l = omega arith
mul-le (suc n) a b l = omega (arith, mul-le n a b l, l)

four : (n most : ℕ) → n * most ≤ 4 * n * most
four zero most = omega arith
four (suc n) most = omega (arith, four n most)

pub small-potentials : (nodes c most : ℕ) (potentials : List ℤ) → c ≤ most → AreFromTo (nodes * c) potentials → (k : ℕ) (d : ℤ) → k < length potentials → get_or potentials k d ≡ get_or potentials k (pos 0) → IsSized (4 * nodes * most) (get_or potentials k d)
small-potentials nodes c most potentials l h k d inside e =
    let b = h k inside in
    let upto = mul-le nodes c most l in
    let times = four nodes most in
    record { above = omega (arith, ints, b.0, e); below = omega (arith, ints, b.1, e, upto, times) }

pub small-certificate : (problem : Problem) (certificate : Certificate) (potentials : List ℤ) (c : ℕ) → HasPotentials potentials certificate → AreFromTo (vec_len problem.supplies * c) potentials → ((most : ℕ) → All (λ arc. IsSized most arc.cost) problem.arcs.items → c ≤ most) → HasSmallPotentials problem certificate
small-certificate problem (Optimal value flows found) potentials c is h least = λ most all k d l.
    small-potentials (vec_len problem.supplies) c most found.items (least most all) (subst (AreFromTo (vec_len problem.supplies * c)) (sym is) h) k d l (get_or_default found.items k d (pos 0) l)
small-certificate problem (Cut flags side) potentials c is h least = tt
