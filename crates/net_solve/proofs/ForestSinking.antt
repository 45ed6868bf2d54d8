-- Complementary slackness where potentials sink together, and where a long gap between potentials is closed.
use Rattle.std.proofs.Common.{◌≡◌, ℕ, ◌<◌, Bool, true, false, cond, not, ◌&&◌, List, [], ◌∷◌, length, get_or, set, ◌+◌, ◌≤◌, ◌^◌, to_z, of_z, w64, FitsSigned, inl, inr, ◌⊎◌, ℤ, pos, negsuc, neg_ℤ, ◌+ℤ◌, ◌-ℤ◌, ◌≤ℤ◌, ◌<ℤ◌, All, refl, sym, ◌∙◌, ap, subst, arith}
use Rattle.std.proofs.lemmas.Int.{ints, clamps}
use Rattle.std.specs.Int.{int_min}
use Rattle.std.proofs.lemmas.Bool.{cases_lt}
use Rattle.std.proofs.lemmas.List.{get_or-set_same, get_or-set_other}
use Rattle.std.specs.List.{AllZip, AllByRecursion}
use Rattle.std.proofs.lemmas.List.Elements.{recursion_from_All}
use Rattle.net_normal.specs.Limits.{IsSized, IsFlowArcOf}
use Rattle.net_normal.specs.declared.problem.FlowArc.{FlowArc}
use Rattle.net_check.specs.Certificates.{IsComplementary, reduced_cost, is_in}
use Rattle.net_solve.specs.Pseudoflows.{IsClear, IsCloser}

-- of one arc between nodes in or out of the set: r is its reduced cost, and s what that becomes
sunk : (p q : Bool) (low cap flow r s amount : ℤ) → s ≡ (r -ℤ cond p amount (pos 0)) +ℤ cond q amount (pos 0) → pos 0 ≤ℤ amount
    → ((p && not q) ≡ true → (flow ≡ cap) ⊎ (amount ≤ℤ r)) → ((q && not p) ≡ true → (flow ≡ low) ⊎ (amount ≤ℤ neg_ℤ r))
    → (pos 0 <ℤ r → flow ≡ low) → (r <ℤ pos 0 → flow ≡ cap) → (pos 0 <ℤ s → flow ≡ low) × (s <ℤ pos 0 → flow ≡ cap)
sunk true true low cap flow r s amount e z out into positive negative = (λ l. positive (omega (arith, ints, e, l)), λ l. negative (omega (arith, ints, e, l)))
sunk false false low cap flow r s amount e z out into positive negative = (λ l. positive (omega (arith, ints, e, l)), λ l. negative (omega (arith, ints, e, l)))
sunk true false low cap flow r s amount e z out into positive negative =
    (λ l. positive (omega (arith, ints, e, l, z)), λ l. elim (out refl) as (λ _. flow ≡ cap) [ inl h ↦ h | inr h ↦ absurd (omega (arith, ints, e, l, h)) ])
sunk false true low cap flow r s amount e z out into positive negative =
    (λ l. elim (into refl) as (λ _. flow ≡ low) [ inl h ↦ h | inr h ↦ absurd (omega (arith, ints, e, l, h)) ], λ l. negative (omega (arith, ints, e, l, z)))

-- the potentials sink by an amount where the node is in the set
abbrev pub Sinks : ℕ → List Bool → ℤ → List ℤ → List ℤ → Type 0
Sinks n flags amount old new = (v : ℕ) → v < n → get_or new v (pos 0) ≡ get_or old v (pos 0) -ℤ cond (is_in flags v) amount (pos 0)

sunk-arc : (n : ℕ) (flags : List Bool) (amount : ℤ) (old new : List ℤ) (arc : FlowArc) (flow : ℤ) → IsFlowArcOf n arc → pos 0 ≤ℤ amount → Sinks n flags amount old new → IsClear old flags amount arc flow → IsComplementary old arc flow → IsComplementary new arc flow
sunk-arc n flags amount old new arc flow fits z sinks clear h =
    let is : reduced_cost new arc ≡ (reduced_cost old arc -ℤ cond (is_in flags arc.src) amount (pos 0)) +ℤ cond (is_in flags arc.dst) amount (pos 0) = omega (arith, ints, sinks arc.src fits.src, sinks arc.dst fits.dst) in
    let both = sunk (is_in flags arc.src) (is_in flags arc.dst) arc.low arc.cap flow (reduced_cost old arc) (reduced_cost new arc) amount is z clear.out clear.into h.positive h.negative in
    record { positive = both.0; negative = both.1 }

sunk-each : (n : ℕ) (flags : List Bool) (amount : ℤ) (old new : List ℤ) (arcs : List FlowArc) (flows : List ℤ) → AllByRecursion (IsFlowArcOf n) arcs → pos 0 ≤ℤ amount → Sinks n flags amount old new → AllZip (IsClear old flags amount) arcs flows → AllZip (IsComplementary old) arcs flows → AllZip (IsComplementary new) arcs flows
sunk-each n flags amount old new [] [] fit z sinks clear h = tt
sunk-each n flags amount old new [] (y ∷ flows) fit z sinks clear h = absurd h
sunk-each n flags amount old new (a ∷ arcs) [] fit z sinks clear h = absurd h
sunk-each n flags amount old new (a ∷ arcs) (y ∷ flows) fit z sinks clear h = (sunk-arc n flags amount old new a y fit.0 z sinks clear.0 h.0, sunk-each n flags amount old new arcs flows fit.1 z sinks clear.1 h.1)

pub sunk-all : (n : ℕ) (flags : List Bool) (amount : ℤ) (old new : List ℤ) (arcs : List FlowArc) (flows : List ℤ) → All (IsFlowArcOf n) arcs → pos 0 ≤ℤ amount → Sinks n flags amount old new → AllZip (IsClear old flags amount) arcs flows → AllZip (IsComplementary old) arcs flows → AllZip (IsComplementary new) arcs flows
sunk-all n flags amount old new arcs flows fit z sinks clear h = sunk-each n flags amount old new arcs flows (recursion_from_All (IsFlowArcOf n) arcs fit) z sinks clear h

pub closed-arc : (most : ℕ) (old new : List ℤ) (arc : FlowArc) (flow : ℤ) → IsSized most arc.cost → IsCloser most (get_or old arc.src (pos 0)) (get_or old arc.dst (pos 0)) (get_or new arc.src (pos 0)) (get_or new arc.dst (pos 0)) → IsComplementary old arc flow → IsComplementary new arc flow
closed-arc most old new arc flow small closer h =
    let above = small.above in
    let below = small.below in
    elim closer.either as (λ _. IsComplementary new arc flow) [
      | inl e ↦ record { positive = λ l. h.positive (omega (arith, ints, e, l)); negative = λ l. h.negative (omega (arith, ints, e, l)) }
      | inr far ↦ elim far as (λ _. IsComplementary new arc flow) [
        | inl up ↦ record { positive = λ l. absurd (omega (arith, ints, up.1, l, below)); negative = λ l. h.negative (omega (arith, ints, up.0, below)) }
        | inr down ↦ record { positive = λ l. h.positive (omega (arith, ints, down.0, above)); negative = λ l. absurd (omega (arith, ints, down.1, l, above)) }
      ]
    ]

pub cases_leℤ : (x y : ℤ) → (x ≤ℤ y) ⊎ (y <ℤ x)
cases_leℤ (pos m) (pos n) = elim (cases_lt n m) as (λ _. (pos m ≤ℤ pos n) ⊎ (pos n <ℤ pos m)) [ inl l ↦ inr (omega (arith, ints, l)) | inr l ↦ inl (omega (arith, ints, l)) ]
cases_leℤ (pos m) (negsuc n) = inr (omega (arith, ints))
cases_leℤ (negsuc m) (pos n) = inl (omega (arith, ints))
cases_leℤ (negsuc m) (negsuc n) = elim (cases_lt m n) as (λ _. (negsuc m ≤ℤ negsuc n) ⊎ (negsuc n <ℤ negsuc m)) [ inl l ↦ inr (omega (arith, ints, l)) | inr l ↦ inl (omega (arith, ints, l)) ]

-- one more level, sorted upwards: its distance to the last one is kept, or cut to `most`
pub closer-next : (most : ℕ) (x y z u v w : ℤ) → x ≤ℤ y → y ≤ℤ z → u ≤ℤ v → IsCloser most x y u v → w ≡ v +ℤ int_min (z -ℤ y) (pos most) → IsCloser most x z u w
closer-next most x y z u v w l m n h e =
    elim h.either as (λ _. IsCloser most x z u w) [
      | inl same ↦ elim (cases_leℤ (z -ℤ y) (pos most)) as (λ _. IsCloser most x z u w) [
        | inl k ↦ record { either = inl (omega (arith, ints, clamps, same, k, e)) }
        | inr k ↦ record { either = inr (inl (omega (arith, ints, l, m, k), omega (arith, ints, clamps, same, l, k, e))) }
      ]
      | inr far ↦ elim far as (λ _. IsCloser most x z u w) [
        | inl up ↦ record { either = inr (inl (omega (arith, ints, up.0, m), omega (arith, ints, clamps, up.1, m, e))) }
        | inr down ↦ absurd (omega (arith, ints, down.0, l))
      ]
    ]

-- one node of the set, lowered
pub lowered-fits : (x z a : ℤ) → x ≡ z → IsSized (10 ^ 18) z → IsSized (10 ^ 18) a → FitsSigned w64 (to_z w64 (of_z w64 x) -ℤ to_z w64 (of_z w64 a))
lowered-fits x z a e h k = omega (arith, ints, e, h.above, h.below, k.above, k.below)

pub lowered-value : (x z a : ℤ) → x ≡ z → IsSized (10 ^ 18) z → IsSized (10 ^ 18) a → to_z w64 (of_z w64 (to_z w64 (of_z w64 x) -ℤ to_z w64 (of_z w64 a))) ≡ z -ℤ to_z w64 (of_z w64 a)
lowered-value x z a e h k = omega (arith, ints, e, h.above, h.below, k.above, k.below)

pub lowered-done : (flags : List Bool) (amount y : ℤ) (old xs : List ℤ) (i : ℕ) → i < length xs → is_in flags i ≡ true → y ≡ get_or old i (pos 0) -ℤ amount → ((v : ℕ) → v < i → get_or xs v (pos 0) ≡ get_or old v (pos 0) -ℤ cond (is_in flags v) amount (pos 0)) → (v : ℕ) → v < i + 1 → get_or (set xs i y) v (pos 0) ≡ get_or old v (pos 0) -ℤ cond (is_in flags v) amount (pos 0)
lowered-done flags amount y old xs i inside t is done v l = elim (cases_lt v i) as (λ _. get_or (set xs i y) v (pos 0) ≡ get_or old v (pos 0) -ℤ cond (is_in flags v) amount (pos 0)) [
  | inl m ↦ get_or-set_other xs i v y (pos 0) (λ e. omega (arith, m, e)) ∙ done v m
  | inr m ↦
      let e : i ≡ v = omega (arith, l, m) in
      subst (λ (k : ℕ). get_or (set xs i y) k (pos 0) ≡ get_or old k (pos 0) -ℤ cond (is_in flags k) amount (pos 0)) e
      (get_or-set_same xs i y (pos 0) inside ∙ is ∙ ap (λ (b : Bool). get_or old i (pos 0) -ℤ cond b amount (pos 0)) (sym t))
]

pub lowered-left : (old xs : List ℤ) (y : ℤ) (n i : ℕ) → ((v : ℕ) → i ≤ v → v < n → get_or xs v (pos 0) ≡ get_or old v (pos 0)) → (v : ℕ) → i + 1 ≤ v → v < n → get_or (set xs i y) v (pos 0) ≡ get_or old v (pos 0)
lowered-left old xs y n i left v l m = get_or-set_other xs i v y (pos 0) (λ e. omega (arith, l, e)) ∙ left v (omega (arith, l)) m

pub skipped-done : (flags : List Bool) (amount : ℤ) (old xs : List ℤ) (i : ℕ) → is_in flags i ≡ false → get_or xs i (pos 0) ≡ get_or old i (pos 0) → ((v : ℕ) → v < i → get_or xs v (pos 0) ≡ get_or old v (pos 0) -ℤ cond (is_in flags v) amount (pos 0)) → (v : ℕ) → v < i + 1 → get_or xs v (pos 0) ≡ get_or old v (pos 0) -ℤ cond (is_in flags v) amount (pos 0)
skipped-done flags amount old xs i t is done v l = elim (cases_lt v i) as (λ _. get_or xs v (pos 0) ≡ get_or old v (pos 0) -ℤ cond (is_in flags v) amount (pos 0)) [
  | inl m ↦ done v m
  | inr m ↦
      let e : i ≡ v = omega (arith, l, m) in
      let none : cond (is_in flags i) amount (pos 0) ≡ pos 0 = ap (λ (b : Bool). cond b amount (pos 0)) t in
      subst (λ (k : ℕ). get_or xs k (pos 0) ≡ get_or old k (pos 0) -ℤ cond (is_in flags k) amount (pos 0)) e (omega (arith, ints, is, none))
]
