-- Why rounding is safe: with a free residue counted as the greatest, no reduced cost of a residual arc becomes negative.
use Rattle.std.proofs.Common.{◌≡◌, ◌≢◌, ℕ, zero, suc, ◌+◌, ◌-◌, ◌*◌, ◌/◌, ◌%◌, ◌<◌, ◌≤◌, List, length, get_or, nat_abs, inl, inr, ℤ, pos, negsuc, ◌+ℤ◌, ◌-ℤ◌, ◌*ℤ◌, ◌≤ℤ◌, ◌<ℤ◌, neg_ℤ, vec_len, refl, sym, ◌∙◌, ap, subst, arith}
use Rattle.std.proofs.lemmas.Int.{ints}
use Rattle.std.proofs.lemmas.Nat.{mod-mul-add, div-add-mod'}
use lib.IntN.{pos-*ℤ-pos, negsuc-*ℤ-pos, *ℤ_comm}
use Rattle.std.specs.List.{AllZip}
use Rattle.net_normal.specs.Flows.{IsWithinCapacity}
use Rattle.net_normal.specs.declared.problem.FlowArc.{FlowArc}
use Rattle.net_normal.specs.declared.problem.Problem.{Problem}
use Rattle.net_normal.proofs.WholeNumbers.{mul-add, mul-neg, neg-mul}
use Rattle.net_check.specs.Certificates.{IsComplementary}
use Rattle.net_solve.specs.Pseudoflows.{no_arc, arc_at}
use Rattle.net_solve.proofs.SlackScanning.{zipped-from}
use Rattle.net_solve.proofs.ForestSinking.{cases_leℤ}
use Rattle.net_solve.specs.Runs.{reduced, factor}
use Rattle.net_solve.specs.Machines.{IsEpsilonOptimal, AreEpsilonOptimal}
use Rattle.net_solve.specs.Rounding.{AreFromZero, IsLowest, IsRounded, level_at}

-- where the shifted number leaves the greatest, the number leaves the free one
residue-kept : (y f free : ℕ) → free < f → (y + (f - 1 - free)) % f ≡ f - 1 → y % f ≡ free
residue-kept y f free inside e =
    let whole = div-add-mod' (y + (f - 1 - free)) f in
    let is : y ≡ (y + (f - 1 - free)) / f * f + free = omega (arith, whole, e, inside) in
    ap (λ (n : ℕ). n % f) is ∙ mod-mul-add ((y + (f - 1 - free)) / f) f free inside

pub residue-below : (y f free : ℕ) → free < f → y % f ≢ free → (y + (f - 1 - free)) % f + 1 < f
residue-below y f free inside other =
    let ne : (y + (f - 1 - free)) % f ≢ f - 1 = λ e. other (residue-kept y f free inside e) in
    let below : (y + (f - 1 - free)) % f < f = omega (arith, inside) in
    omega (arith, ne, below, inside)

-- a product over a difference
product : (f a b : ℕ) (c : ℤ) → ((c -ℤ pos a) +ℤ pos b) *ℤ pos f ≡ ((c *ℤ pos f) -ℤ pos (a * f)) +ℤ pos (b * f)
product f a b c =
    let p = *ℤ_comm ((c -ℤ pos a) +ℤ pos b) (pos f) in
    let q = mul-add (pos f) (c +ℤ neg_ℤ (pos a)) (pos b) in
    let r = mul-add (pos f) c (neg_ℤ (pos a)) in
    let s = mul-neg (pos f) (pos a) in
    let t = *ℤ_comm c (pos f) in
    let u = *ℤ_comm (pos f) (pos a) ∙ pos-*ℤ-pos a f in
    let v = *ℤ_comm (pos f) (pos b) ∙ pos-*ℤ-pos b f in
    omega (arith, ints, p, q, r, s, t, u, v)

times : (f n : ℕ) → f ≤ suc n * f
times f zero = omega arith
times f (suc n) = omega (arith, times f n)

neg-product : (f : ℕ) (c : ℤ) → neg_ℤ c *ℤ pos f ≡ neg_ℤ (c *ℤ pos f)
neg-product f c = neg-mul c (pos f)

no-less : (f : ℕ) (w : ℤ) → neg_ℤ (pos f) <ℤ (w *ℤ pos f) → pos 0 ≤ℤ w
no-less f (pos n) h = omega (arith, ints)
no-less f (negsuc n) h =
    let p = negsuc-*ℤ-pos n f in
    let q : f ≤ suc n * f = times f n in
    absurd (omega (arith, ints, h, p, q))

-- from tail to head of a residual arc of reduced cost at least -1
pub kept : (f x y s : ℕ) (c : ℤ) → (y + s) % f + 1 < f → neg_ℤ (pos 1) ≤ℤ (((c *ℤ pos f) -ℤ pos x) +ℤ pos y) → pos 0 ≤ℤ ((c -ℤ pos ((x + s) / f)) +ℤ pos ((y + s) / f))
kept f x y s c below h =
    let p = product f ((x + s) / f) ((y + s) / f) c in
    let q = div-add-mod' (x + s) f in
    let r = div-add-mod' (y + s) f in
    no-less f ((c -ℤ pos ((x + s) / f)) +ℤ pos ((y + s) / f)) (omega (arith, ints, p, q, r, below, h))

depth-is : (x : ℤ) → x ≤ℤ pos 0 → x ≡ neg_ℤ (pos (nat_abs x))
depth-is (pos zero) h = refl
depth-is (pos (suc n)) h = absurd (omega (arith, ints, h))
depth-is (negsuc n) h = refl

pub complementary : (f s : ℕ) (cost top x y u v flow : ℤ) (arc : FlowArc) → x ≤ℤ pos 0 → y ≤ℤ pos 0 → (nat_abs x + s) % f + 1 < f → (nat_abs y + s) % f + 1 < f
    → u ≡ top -ℤ pos ((nat_abs x + s) / f) → v ≡ top -ℤ pos ((nat_abs y + s) / f)
    → IsWithinCapacity arc flow → IsEpsilonOptimal (pos 1) (((cost *ℤ pos f) +ℤ x) -ℤ y) arc flow
    → (pos 0 <ℤ ((cost +ℤ u) -ℤ v) → flow ≡ arc.low) × (((cost +ℤ u) -ℤ v) <ℤ pos 0 → flow ≡ arc.cap)
complementary f s cost top x y u v flow arc dx dy bx by ux vy within near =
    let ex = depth-is x dx in
    let ey = depth-is y dy in (
      λ dear. elim (cases_leℤ flow arc.low) as (λ _. flow ≡ arc.low) [
        | inl l ↦ omega (arith, ints, within.low, l)
        | inr l ↦
            let back : neg_ℤ (pos 1) ≤ℤ (((neg_ℤ cost *ℤ pos f) -ℤ pos (nat_abs y)) +ℤ pos (nat_abs x)) = let n = neg-product f cost in omega (arith, ints, near.backwards l, ex, ey, n) in
            let k = kept f (nat_abs y) (nat_abs x) s (neg_ℤ cost) bx back in
            absurd (omega (arith, ints, k, dear, ux, vy))
      ],
      λ saves. elim (cases_leℤ arc.cap flow) as (λ _. flow ≡ arc.cap) [
        | inl l ↦ omega (arith, ints, within.cap, l)
        | inr l ↦
            let ahead : neg_ℤ (pos 1) ≤ℤ (((cost *ℤ pos f) -ℤ pos (nat_abs x)) +ℤ pos (nat_abs y)) = omega (arith, ints, near.forwards l, ex, ey) in
            let k = kept f (nat_abs x) (nat_abs y) s cost by ahead in
            absurd (omega (arith, ints, k, saves, ux, vy))
      ],
    )

-- rounded potentials are complementary to a flow that the last phase has ended with
pub all-complementary : (problem : Problem) (flows potentials whole : List ℤ) → length potentials ≡ vec_len problem.supplies → ((v : ℕ) → v < vec_len problem.supplies → get_or potentials v (pos 0) ≤ℤ pos 0) → length flows ≡ vec_len problem.arcs
    → ((i : ℕ) → i < vec_len problem.arcs → IsWithinCapacity (arc_at problem i) (get_or flows i (pos 0))) → AreEpsilonOptimal problem 1 flows potentials → IsRounded potentials whole → AllZip (IsComplementary whole) problem.arcs.items flows
all-complementary problem flows potentials whole count deep one_each within near r =
    let n = vec_len problem.supplies in
    zipped-from (IsComplementary whole) problem.arcs.items flows (omega (arith, one_each, problem.arcs.ok.0)) (λ i l.
    let inside : i < vec_len problem.arcs = omega (arith, l, problem.arcs.ok.0) in
    let arc = arc_at problem i in
    let fits = problem.arcs_fit i no_arc l in
    let src : arc.src < length potentials = omega (arith, fits.src, count) in
    let dst : arc.dst < length potentials = omega (arith, fits.dst, count) in
    let f = length potentials + 1 in
    let same : factor problem ≡ f = ap (λ (k : ℕ). k + 1) (sym count) in
    let both = complementary f (f - 1 - r.free) arc.cost (pos r.top) (get_or potentials arc.src (pos 0)) (get_or potentials arc.dst (pos 0)) (get_or whole arc.src (pos 0)) (get_or whole arc.dst (pos 0)) (get_or flows i (pos 0)) arc
    (deep arc.src fits.src) (deep arc.dst fits.dst)
    (residue-below (nat_abs (get_or potentials arc.src (pos 0))) f r.free r.is_free.inside (r.is_free.not_taken arc.src src))
    (residue-below (nat_abs (get_or potentials arc.dst (pos 0))) f r.free r.is_free.inside (r.is_free.not_taken arc.dst dst))
    (r.each arc.src src) (r.each arc.dst dst) (within i inside)
    (subst (λ (k : ℕ). IsEpsilonOptimal (pos 1) (reduced k potentials arc) arc (get_or flows i (pos 0))) same (near i inside)) in
    record { positive = both.0; negative = both.1 })

-- counted from the level of the lowest one
pub from-zero : (potentials whole : List ℤ) (free top lowest : ℕ) → length whole ≡ length potentials → lowest < length potentials → IsLowest potentials free lowest → top ≡ level_at potentials free lowest
    → ((v : ℕ) → v < length potentials → get_or whole v (pos 0) ≡ pos top -ℤ pos (level_at potentials free v)) → AreFromZero whole
from-zero potentials whole free top lowest count inside low is each = record {
  least = λ v l. let k : v < length potentials = omega (arith, l, count) in omega (arith, ints, each v k, low v k, is);
  place = lowest;
  inside = omega (arith, inside, count);
  none = omega (arith, ints, each lowest inside, is);
}
