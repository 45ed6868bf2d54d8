-- Sums and facts over a run of nodes, and how a sum over nodes counts each arc once at each end.
use Rattle.std.proofs.Common.{◌≡◌, ◌≢◌, ℕ, zero, suc, ◌+◌, ◌<◌, ◌≤◌, inl, inr, Bool, true, cond, List, [], ◌∷◌, length, Some, ℤ, pos, ◌+ℤ◌, ◌-ℤ◌, nat_eq, refl, ap, subst, arith}
use Rattle.std.proofs.lemmas.Int.{ints}
use Rattle.std.proofs.Common.{eq-eqb}
use Rattle.std.proofs.lemmas.Bool.{cases_lt, ne_eqb}
use Rattle.std.specs.List.{AllByRecursion, slice_get}
use Rattle.net_normal.specs.Sums.{flow_on}

-- the sum of f over n nodes from v on
abbrev pub sum_over : (ℕ → ℤ) → ℕ → ℕ → ℤ
sum_over f v zero = pos 0
sum_over f v (suc n) = f v +ℤ sum_over f (suc v) n

pub sum_over-same : (f g : ℕ → ℤ) (v n : ℕ) → ((u : ℕ) → f u ≡ g u) → sum_over f v n ≡ sum_over g v n
sum_over-same f g v zero h = refl
sum_over-same f g v (suc n) h = omega (arith, ints, h v, sum_over-same f g (suc v) n h)

pub sum_over-add : (f g : ℕ → ℤ) (v n : ℕ) → sum_over (λ u. f u +ℤ g u) v n ≡ sum_over f v n +ℤ sum_over g v n
sum_over-add f g v zero = refl
sum_over-add f g v (suc n) = omega (arith, ints, sum_over-add f g (suc v) n)

pub sum_over-sub : (f g : ℕ → ℤ) (v n : ℕ) → sum_over (λ u. f u -ℤ g u) v n ≡ sum_over f v n -ℤ sum_over g v n
sum_over-sub f g v zero = refl
sum_over-sub f g v (suc n) = omega (arith, ints, sum_over-sub f g (suc v) n)

pub sum_over-zero : (v n : ℕ) → sum_over (λ _. pos 0) v n ≡ pos 0
sum_over-zero v zero = refl
sum_over-zero v (suc n) = omega (arith, ints, sum_over-zero (suc v) n)

pub sum_over_last : (f : ℕ → ℤ) (v n : ℕ) → sum_over f v (suc n) ≡ sum_over f v n +ℤ f (v + n)
sum_over_last f v zero =
    let at : v ≡ v + 0 = omega arith in
    omega (arith, ints, ap f at)
sum_over_last f v (suc n) =
    let at : suc v + n ≡ v + suc n = omega arith in
    omega (arith, ints, ap f at, sum_over_last f (suc v) n)

-- a number that stands at one node
abbrev pub standing : ℕ → ℤ → ℕ → ℤ
standing e x u = cond (nat_eq e u) x (pos 0)

pub standing_off : (e u : ℕ) (x : ℤ) → e ≢ u → standing e x u ≡ pos 0
standing_off e u x h = ap (λ (b : Bool). cond b x (pos 0)) (ne_eqb e u h)

pub standing_on : (e u : ℕ) (x : ℤ) → e ≡ u → standing e x u ≡ x
standing_on e u x h = ap (λ (b : Bool). cond b x (pos 0)) (eq-eqb e u h)

pub sum_over-before : (e v n : ℕ) (x : ℤ) → e < v → sum_over (standing e x) v n ≡ pos 0
sum_over-before e v zero x h = refl
sum_over-before e v (suc n) x h = omega (arith, ints, standing_off e v x (omega arith), sum_over-before e (suc v) n x (omega arith))

-- it counts once in a run of nodes that has its node
pub sum_over-standing : (e v n : ℕ) (x : ℤ) → v ≤ e → e < v + n → sum_over (standing e x) v n ≡ x
sum_over-standing e v zero x h k = absurd (omega arith)
sum_over-standing e v (suc n) x h k =
    elim (cases_lt v e) as (λ _. sum_over (standing e x) v (suc n) ≡ x) [
      | inl l ↦ omega (arith, ints, standing_off e v x (omega (arith, l)), sum_over-standing e (suc v) n x (omega (arith, l)) (omega arith))
      | inr l ↦ let at : e ≡ v = omega (arith, l, h) in omega (arith, ints, standing_on e v x at, sum_over-before e (suc v) n x (omega arith))
    ]

-- each arc's flow counts at one node, its end
pub sum_over-ends : {A : Type 0} (end : A → ℕ) (n : ℕ) (arcs : List A) (xs : List ℤ) → AllByRecursion (λ a. end a < n) arcs → sum_over (λ u. flow_on (λ a. nat_eq (end a) u) arcs xs) 0 n ≡ flow_on (λ _. true) arcs xs
sum_over-ends end n [] xs h = sum_over-zero 0 n
sum_over-ends end n (a ∷ arcs) [] h = sum_over-zero 0 n
sum_over-ends end n (a ∷ arcs) (x ∷ xs) h =
    let both : sum_over (λ u. standing (end a) x u +ℤ flow_on (λ b. nat_eq (end b) u) arcs xs) 0 n ≡ sum_over (standing (end a) x) 0 n +ℤ sum_over (λ u. flow_on (λ b. nat_eq (end b) u) arcs xs) 0 n
    = sum_over-add (standing (end a) x) (λ u. flow_on (λ b. nat_eq (end b) u) arcs xs) 0 n in
    omega (arith, ints, both, sum_over-standing (end a) 0 n x (omega arith) (omega (arith, h.0)), sum_over-ends end n arcs xs h.1)

-- a fact about each node, with its range, from number v on
abbrev pub EachNode : {R : Type 0} → (ℕ → R → Type 0) → ℕ → List R → Type 0
EachNode P v [] = Unit {0}
EachNode P v (r ∷ ranges) = P v r × EachNode P (suc v) ranges

pub each-weaker : {R : Type 0} (P Q : ℕ → R → Type 0) (v : ℕ) (ranges : List R) → ((u : ℕ) (r : R) → v ≤ u → P u r → Q u r) → EachNode P v ranges → EachNode Q v ranges
each-weaker P Q v [] f h = tt
each-weaker P Q v (r ∷ ranges) f h = (f v r (omega arith) h.0, each-weaker P Q (suc v) ranges (λ u q l p. f u q (omega arith) p) h.1)

pub each-from_get : {R : Type 0} (P : ℕ → R → Type 0) (v : ℕ) (ranges : List R) → ((u : ℕ) (r : R) → slice_get ranges u ≡ Some r → P (v + u) r) → EachNode P v ranges
each-from_get P v [] f = tt
each-from_get P v (r ∷ ranges) f =
    let here : v + 0 ≡ v = omega arith in (
      subst (λ (u : ℕ). P u r) here (f 0 r refl),
      each-from_get P (suc v) ranges (λ u q h. let there : v + suc u ≡ suc v + u = omega arith in subst (λ (w : ℕ). P w q) there (f (suc u) q h)),
    )

pub each-get : {R : Type 0} (P : ℕ → R → Type 0) (v : ℕ) (ranges : List R) → EachNode P v ranges → (u : ℕ) (r : R) → slice_get ranges u ≡ Some r → P (v + u) r
each-get P v [] h u r e = cc
each-get P v (q ∷ ranges) h zero r e =
    let same : q ≡ r = cc in
    let here : v ≡ v + 0 = omega arith in
    subst (λ (w : ℕ). P w r) here (subst (P v) same h.0)
each-get P v (q ∷ ranges) h (suc u) r e =
    let there : suc v + u ≡ v + suc u = omega arith in
    subst (λ (w : ℕ). P w r) there (each-get P (suc v) ranges h.1 u r e)

-- the same from node 0 on
pub each-get_from_zero : {R : Type 0} (P : ℕ → R → Type 0) (ranges : List R) → EachNode P 0 ranges → (u : ℕ) (r : R) → slice_get ranges u ≡ Some r → P u r
each-get_from_zero P ranges h u r e =
    let same : 0 + u ≡ u = omega arith in
    subst (λ (w : ℕ). P w r) same (each-get P 0 ranges h u r e)

pub each-from_get_zero : {R : Type 0} (P : ℕ → R → Type 0) (ranges : List R) → ((u : ℕ) (r : R) → slice_get ranges u ≡ Some r → P u r) → EachNode P 0 ranges
each-from_get_zero P ranges f =
    each-from_get P 0 ranges (λ u r e. let same : u ≡ 0 + u = omega arith in subst (λ (w : ℕ). P w r) same (f u r e))

pub slice_get-inside : {R : Type 0} (ranges : List R) (u : ℕ) (r : R) → slice_get ranges u ≡ Some r → u < length ranges
slice_get-inside [] u r e = cc
slice_get-inside (q ∷ ranges) zero r e = omega arith
slice_get-inside (q ∷ ranges) (suc u) r e = omega (arith, slice_get-inside ranges u r e)
