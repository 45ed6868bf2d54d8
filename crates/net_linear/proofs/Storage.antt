-- Coefficients that are stored as a run and others.
use Rattle.std.specs.Prelude.{◌≡◌, ℕ, zero, suc, ◌+◌, ◌<◌, ◌≤◌, ◌^◌, Bool, true, false, List, [], ◌∷◌, ◌++◌, length, nat_eq, nat_lt, get_or, slice_get, slice_set, Option, Some, None, ◌⊎◌, if◌then◌else◌, ℤ}
use Rattle.std.proofs.Common.{refl, ap, sym, ◌∙◌, inl, inr, arith}
use Rattle.std.proofs.lemmas.Bool.Decides.{Decides-eqb}
use Rattle.indexmap.specs.IndexMap.{insert_entry}
use Rattle.net_linear.specs.Forms.{Products, coefficient, is_number}
use Rattle.net_linear.specs.Storage.{run_from}

not_above : (a b : ℕ) → b < a → nat_eq a b ≡ false
not_above a b h = step (nat_eq a b) refl
  where
    step : (c : Bool) → nat_eq a b ≡ c → c ≡ false
    step true e = let is : a ≡ b = (Decides-eqb a b).0 e in absurd (omega (arith, h, is))
    step false e = refl

not_below : (a b : ℕ) → a < b → nat_eq a b ≡ false
not_below a b h = step (nat_eq a b) refl
  where
    step : (c : Bool) → nat_eq a b ≡ c → c ≡ false
    step true e = let is : a ≡ b = (Decides-eqb a b).0 e in absurd (omega (arith, h, is))
    step false e = refl

-- the position of an arc
abbrev pub IsPosition : ℕ → ℕ → ℕ → Type 0
IsPosition first arc p = (first ≤ arc → first + p ≡ arc) × (arc < first → p ≡ 18446744073709551615)

pub in_run : (first arc p n : ℕ) → IsPosition first arc p → n < 2 ^ 63 → p < n → arc ≡ first + p
in_run first arc p n is few h = step (nat_lt arc first) refl
  where
    step : (b : Bool) → nat_lt arc first ≡ b → arc ≡ first + p
    step true e = let before : arc < first = grind (arith, e) in absurd (omega (arith, few, h, is.1 before))
    step false e = let from : first ≤ arc = grind (arith, e) in omega (arith, is.0 from)

pub at_end : (first arc p n : ℕ) → IsPosition first arc p → n < 2 ^ 63 → p ≡ n → arc ≡ first + n
at_end first arc p n is few h = step (nat_lt arc first) refl
  where
    step : (b : Bool) → nat_lt arc first ≡ b → arc ≡ first + n
    step true e = let before : arc < first = grind (arith, e) in absurd (omega (arith, few, h, is.1 before))
    step false e = let from : first ≤ arc = grind (arith, e) in omega (arith, h, is.0 from)

-- outside of the run
abbrev pub IsPast : ℕ → ℕ → ℕ → Type 0
IsPast first n arc = (arc < first) ⊎ (first + n ≤ arc)

pub past_run : (first arc p n : ℕ) → IsPosition first arc p → n ≤ p → IsPast first n arc
past_run first arc p n is h = step (nat_lt arc first) refl
  where
    step : (b : Bool) → nat_lt arc first ≡ b → IsPast first n arc
    step true e = inl (grind (arith, e))
    step false e = let from : first ≤ arc = grind (arith, e) in inr (omega (arith, h, is.0 from))

pub long : (a : ℕ) (cs : List ℤ) (os : Products) → length (run_from a cs ++ os) ≡ length cs + length os
long a [] os = let none : length os ≡ 0 + length os = omega arith in none
long a (c ∷ cs) os = let rest = long (a + 1) cs os in omega (arith, rest)

pub none_is : (ps : Products) (n : ℕ) → n ≡ length ps → nat_eq n 0 ≡ is_number ps
none_is [] n e = ap (λ k. nat_eq k 0) e
none_is (p ∷ ps) n e = ap (λ k. nat_eq k 0) e ∙ not_above (length (p ∷ ps)) 0 (omega arith)

-- an empty list has any first arc
pub empty_from : (a b : ℕ) (cs : List ℤ) (os now : Products) → run_from a cs ++ os ≡ now → is_number now ≡ true → run_from b cs ++ os ≡ now
empty_from a b [] os now view none = view
empty_from a b (c ∷ cs) os now view none = let some : is_number ((a, c) ∷ (run_from (a + 1) cs ++ os)) ≡ true = ap is_number view ∙ none in cc

pub begins : (b : Bool) (first arc x : ℕ) (cs : List ℤ) (os now : Products) → x ≡ (if b then arc else first) → b ≡ is_number now → run_from first cs ++ os ≡ now → run_from x cs ++ os ≡ now
begins true first arc x cs os now is none view = rw is (empty_from first arc cs os now view (sym none))
begins false first arc x cs os now is none view = rw is view

empty_run : (a : ℕ) (cs : List ℤ) (os now : Products) → run_from a cs ++ os ≡ now → is_number now ≡ true → length cs ≡ 0
empty_run a [] os now view none = refl
empty_run a (c ∷ cs) os now view none = let some : is_number ((a, c) ∷ (run_from (a + 1) cs ++ os)) ≡ true = ap is_number view ∙ none in cc

pub has_room : (b : Bool) (first arc x : ℕ) (cs : List ℤ) (os now : Products) → x ≡ (if b then arc else first) → b ≡ is_number now → run_from first cs ++ os ≡ now → arc < 2 ^ 64 → first + length cs ≤ 2 ^ 64 → x + length cs ≤ 2 ^ 64
has_room true first arc x cs os now is none view few room = omega (arith, is, few, empty_run first cs os now view (sym none))
has_room false first arc x cs os now is none view few room = omega (arith, is, room)

-- what is at a position
pub entry_in_run : (a : ℕ) (cs : List ℤ) (os : Products) (i : ℕ) (c : ℤ) → i < length cs → c ≡ get_or cs i c → Some (a + i, c) ≡ slice_get (run_from a cs ++ os) i
entry_in_run a [] os i c h e = absurd (omega (arith, h))
entry_in_run a (x ∷ cs) os zero c h e = ap (λ (n : ℕ). Some (n, c)) (omega arith) ∙ ap (λ (y : ℤ). Some (a, y)) e
entry_in_run a (x ∷ cs) os (suc i) c h e = ap (λ (n : ℕ). Some (n, c)) (omega arith) ∙ entry_in_run (a + 1) cs os i c (omega (arith, h)) e

pub entry_past : (a : ℕ) (cs : List ℤ) (os : Products) (i j : ℕ) → i ≡ length cs + j → slice_get os j ≡ slice_get (run_from a cs ++ os) i
entry_past a [] os i j e = let same : j ≡ i = omega (arith, e) in ap (slice_get os) same
entry_past a (x ∷ cs) os zero j e = absurd (omega (arith, e))
entry_past a (x ∷ cs) os (suc i) j e = entry_past (a + 1) cs os i j (omega (arith, e))

-- the coefficient of an arc
pub coefficient_in_run : (a : ℕ) (cs : List ℤ) (os : Products) (i b : ℕ) (c : ℤ) → b ≡ a + i → i < length cs → c ≡ get_or cs i c → c ≡ coefficient (run_from a cs ++ os) b
coefficient_in_run a [] os i b c is h e = absurd (omega (arith, h))
coefficient_in_run a (x ∷ cs) os zero b c is h e = let same : b ≡ a = omega (arith, is) in rw ((Decides-eqb b a).1 same) e
coefficient_in_run a (x ∷ cs) os (suc i) b c is h e = rw (not_above b a (omega (arith, is))) (coefficient_in_run (a + 1) cs os i b c (omega (arith, is)) (omega (arith, h)) e)

pub coefficient_past : (a : ℕ) (cs : List ℤ) (os : Products) (b : ℕ) → IsPast a (length cs) b → coefficient os b ≡ coefficient (run_from a cs ++ os) b
coefficient_past a [] os b h = refl
coefficient_past a (x ∷ cs) os b (inl h) = rw (not_below b a h) (coefficient_past (a + 1) cs os b (inl (omega (arith, h))))
coefficient_past a (x ∷ cs) os b (inr h) = rw (not_above b a (omega (arith, h))) (coefficient_past (a + 1) cs os b (inr (omega (arith, h))))

-- the list with another coefficient of an arc
pub set_in_run : (a : ℕ) (cs : List ℤ) (os : Products) (i b : ℕ) (c : ℤ) → b ≡ a + i → i < length cs → run_from a (slice_set cs i c) ++ os ≡ insert_entry nat_eq (run_from a cs ++ os) b c
set_in_run a [] os i b c is h = absurd (omega (arith, h))
set_in_run a (x ∷ cs) os zero b c is h = let same : b ≡ a = omega (arith, is) in rw ((Decides-eqb b a).1 same) refl
set_in_run a (x ∷ cs) os (suc i) b c is h =
    rw (not_above b a (omega (arith, is))) (ap (λ (ps : Products). (a, x) ∷ ps) (set_in_run (a + 1) cs os i b c (omega (arith, is)) (omega (arith, h))))

pub set_past : (a : ℕ) (cs : List ℤ) (os : Products) (b : ℕ) (c : ℤ) → IsPast a (length cs) b → run_from a cs ++ insert_entry nat_eq os b c ≡ insert_entry nat_eq (run_from a cs ++ os) b c
set_past a [] os b c h = refl
set_past a (x ∷ cs) os b c (inl h) = rw (not_below b a h) (ap (λ (ps : Products). (a, x) ∷ ps) (set_past (a + 1) cs os b c (inl (omega (arith, h)))))
set_past a (x ∷ cs) os b c (inr h) = rw (not_above b a (omega (arith, h))) (ap (λ (ps : Products). (a, x) ∷ ps) (set_past (a + 1) cs os b c (inr (omega (arith, h)))))

pub set_next : (a : ℕ) (cs : List ℤ) (os : Products) (b : ℕ) (c : ℤ) → length os ≡ 0 → b ≡ a + length cs → run_from a (cs ++ c ∷ []) ++ os ≡ insert_entry nat_eq (run_from a cs ++ os) b c
set_next a cs (o ∷ os) b c none is = absurd (omega (arith, none))
set_next a [] [] b c none is = ap (λ (n : ℕ). (n, c) ∷ []) (omega (arith, is))
set_next a (x ∷ cs) [] b c none is = rw (not_above b a (omega (arith, is))) (ap (λ (ps : Products). (a, x) ∷ ps) (set_next (a + 1) cs [] b c none (omega (arith, is))))
