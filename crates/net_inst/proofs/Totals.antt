-- The sum of coefficients times numbers, arc by arc.
use Rattle.std.specs.Prelude.{◌≡◌, ◌≤◌, ◌<◌, ℕ, zero, suc, Bool, true, false, ◌||◌, List, [], ◌∷◌, ◌++◌, length, map, nat_eq, slice_get, Some, if◌then◌else◌, ℤ, pos, ◌+ℤ◌, ◌*ℤ◌}
use Rattle.std.proofs.Common.{refl, ap, sym, ◌∙◌, subst, arith, append_assoc, append-nil}
use Rattle.std.proofs.lemmas.List.{length-append}
use Rattle.std.proofs.lemmas.Bool.{eqb-true}
use Rattle.std.proofs.lemmas.Int.{ints}
use lib.IntN.{zero-*ℤ}
use Rattle.net_normal.specs.Sums.{price_of}
use Rattle.net_linear.specs.Forms.{Products, coefficient, stands_in, all_apart, products_at}
use Rattle.net_linear.proofs.Coefficients.{head_apart, tail_apart}
use Rattle.net_linear.proofs.Rings.{mul-none}
use Rattle.net_inst.specs.declared.arc.Built.{Built}
use Rattle.net_inst.specs.AsWritten.{WrittenLabel, WrittenArc, Assignment, number_on, numbers_on}
use Rattle.net_inst.specs.Instances.{with_coefficients}

-- the number at a place; 0 past the end
abbrev pub number_at : List ℤ → ℕ → ℤ
number_at [] v = pos 0
number_at (y ∷ ys) zero = y
number_at (y ∷ ys) (suc v) = number_at ys v

-- the coefficients from arc a on times the numbers
abbrev pub sum_from : Products → ℕ → List Built → List ℤ → ℤ
sum_from ps a xs ys = price_of (λ x. x.coefficient) (with_coefficients ps a xs) ys

-- from place a on x is these numbers, and behind them 0
abbrev Spells : (ℕ → ℤ) → ℕ → List ℤ → Type 0
Spells x a [] = (v : ℕ) → a ≤ v → x v ≡ pos 0
Spells x a (y ∷ ys) = (x a ≡ y) × Spells x (suc a) ys

none_there : (b : ℕ) (ps : Products) → stands_in b ps ≡ false → coefficient ps b ≡ pos 0
none_there b [] h = refl
none_there b (p ∷ ps) h = go (nat_eq b p.0) h (none_there b ps)
  where
    go : (t : Bool) → t || stands_in b ps ≡ false → (stands_in b ps ≡ false → coefficient ps b ≡ pos 0) → (if t then p.1 else coefficient ps b) ≡ pos 0
    go true h more = cc
    go false h more = more h

past : (a b : ℕ) → b < a → nat_eq a b ≡ false
past a b h = grind (arith, h)

-- a product of an arc before them changes nothing
before_them : (p : ℕ × ℤ) (ps : Products) (a : ℕ) (xs : List Built) (ys : List ℤ) → p.0 < a → sum_from (p ∷ ps) a xs ys ≡ sum_from ps a xs ys
before_them p ps a [] ys h = refl
before_them p ps a (x ∷ xs) [] h = refl
before_them p ps a (x ∷ xs) (y ∷ ys) h =
    let first : (if nat_eq a p.0 then p.1 else coefficient ps a) ≡ coefficient ps a = ap (λ (t : Bool). if t then p.1 else coefficient ps a) (past a p.0 h) in
    let rest : sum_from (p ∷ ps) (suc a) xs ys ≡ sum_from ps (suc a) xs ys = before_them p ps (suc a) xs ys (omega (arith, h)) in
    ap (λ (c : ℤ). (c *ℤ y) +ℤ sum_from (p ∷ ps) (suc a) xs ys) first ∙ ap (λ (s : ℤ). (coefficient ps a *ℤ y) +ℤ s) rest

-- a product of one of them, or of one behind them, adds its part
among_them : (x : ℕ → ℤ) (p : ℕ × ℤ) (ps : Products) (a : ℕ) (xs : List Built) (ys : List ℤ) → stands_in p.0 ps ≡ false → a ≤ p.0 → length xs ≡ length ys → Spells x a ys
    → sum_from (p ∷ ps) a xs ys ≡ sum_from ps a xs ys +ℤ p.1 *ℤ x p.0
among_them x p ps a [] [] apart h l s = omega (arith, ints, ap (λ (n : ℤ). p.1 *ℤ n) (s p.0 h), mul-none p.1)
among_them x p ps a [] (y ∷ ys) apart h l s = absurd (let e = l in omega arith)
among_them x p ps a (q ∷ xs) [] apart h l s = absurd (let e = l in omega arith)
among_them x p ps a (q ∷ xs) (y ∷ ys) apart h l s = go (nat_eq a p.0) refl (λ m. among_them x p ps (suc a) xs ys apart m (omega (arith, l)) s.1)
  where
    here : a ≡ p.0 → (p.1 *ℤ y) +ℤ sum_from (p ∷ ps) (suc a) xs ys ≡ ((coefficient ps a *ℤ y) +ℤ sum_from ps (suc a) xs ys) +ℤ p.1 *ℤ x p.0
    here e =
        let rest : sum_from (p ∷ ps) (suc a) xs ys ≡ sum_from ps (suc a) xs ys = before_them p ps (suc a) xs ys (omega (arith, e)) in
        let none : coefficient ps a *ℤ y ≡ pos 0 = ap (λ (b : ℕ). coefficient ps b *ℤ y) e ∙ ap (λ (c : ℤ). c *ℤ y) (none_there p.0 ps apart) ∙ zero-*ℤ y in
        let number : p.1 *ℤ x p.0 ≡ p.1 *ℤ y = ap (λ (b : ℕ). p.1 *ℤ x b) (sym e) ∙ ap (λ (c : ℤ). p.1 *ℤ c) s.0 in
        omega (arith, ints, rest, none, number)

    later : nat_eq a p.0 ≡ false → a < p.0
    later e = grind (arith, h, e)

    go : (t : Bool) → nat_eq a p.0 ≡ t → (a < p.0 → sum_from (p ∷ ps) (suc a) xs ys ≡ sum_from ps (suc a) xs ys +ℤ p.1 *ℤ x p.0)
        → ((if t then p.1 else coefficient ps a) *ℤ y) +ℤ sum_from (p ∷ ps) (suc a) xs ys ≡ ((coefficient ps a *ℤ y) +ℤ sum_from ps (suc a) xs ys) +ℤ p.1 *ℤ x p.0
    go true e more = here (eqb-true a p.0 e)
    go false e more = omega (arith, ints, more (later e))

none_of : (a : ℕ) (xs : List Built) (ys : List ℤ) → sum_from [] a xs ys ≡ pos 0
none_of a [] ys = refl
none_of a (x ∷ xs) [] = refl
none_of a (x ∷ xs) (y ∷ ys) = omega (arith, ints, zero-*ℤ y, none_of (suc a) xs ys)

spelled : (x : ℕ → ℤ) (ps : Products) (xs : List Built) (ys : List ℤ) → all_apart ps ≡ true → length xs ≡ length ys → Spells x 0 ys → sum_from ps 0 xs ys ≡ products_at x ps
spelled x [] xs ys h l s = none_of 0 xs ys
spelled x (p ∷ ps) xs ys h l s =
    let rest = spelled x ps xs ys (tail_apart (stands_in p.0 ps) (all_apart ps) h) l s in
    let one = among_them x p ps 0 xs ys (head_apart (stands_in p.0 ps) (all_apart ps) h) (omega arith) l s in
    omega (arith, ints, rest, one)

past_end : (ys : List ℤ) (v : ℕ) → length ys ≤ v → number_at ys v ≡ pos 0
past_end [] v h = refl
past_end (y ∷ ys) zero h = absurd (omega (arith, h))
past_end (y ∷ ys) (suc v) h = past_end ys v (omega (arith, h))

spells : (front ys : List ℤ) (a : ℕ) → a ≡ length front → Spells (number_at (front ++ ys)) a ys
spells front [] a e = λ v h. past_end (front ++ []) v (omega (arith, ap (λ (l : List ℤ). length l) (append-nil front), e, h))
spells front (y ∷ ys) a e =
    (ap (number_at (front ++ y ∷ ys)) e ∙ at_seam front, subst (λ (l : List ℤ). Spells (number_at l) (suc a) ys) (append_assoc front (y ∷ []) ys) (spells (front ++ y ∷ []) ys (suc a) (omega (arith, length-append front (y ∷ []), e))))
  where
    at_seam : (front : List ℤ) → number_at (front ++ y ∷ ys) (length front) ≡ y
    at_seam [] = refl
    at_seam (z ∷ front) = at_seam front

pub total_is : (ps : Products) (xs : List Built) (ys : List ℤ) → all_apart ps ≡ true → length xs ≡ length ys → sum_from ps 0 xs ys ≡ products_at (number_at ys) ps
total_is ps xs ys h l = spelled (number_at ys) ps xs ys h l (spells [] ys 0 refl)

-- the number at an arc's place
pub number_of_label : (x : Assignment) (all : List WrittenArc) (v : ℕ) (l : WrittenLabel) → slice_get (map (λ a. a.label) all) v ≡ Some l → number_at (numbers_on x all) v ≡ x l.name l.key
number_of_label x [] v l e = absurd (let h = e in cc)
number_of_label x (a ∷ all) zero l e = let same : a.label ≡ l = cc in ap (λ (m : WrittenLabel). x m.name m.key) same
number_of_label x (a ∷ all) (suc v) l e = number_of_label x all v l e

pub number_of_arc : (x : Assignment) (front : List WrittenArc) (a : WrittenArc) (rest : List WrittenArc) (v : ℕ) → v ≡ length front → number_at (numbers_on x (front ++ a ∷ rest)) v ≡ number_on x a
number_of_arc x front a rest v e = ap (number_at (numbers_on x (front ++ a ∷ rest))) e ∙ go front
  where
    go : (front : List WrittenArc) → number_at (numbers_on x (front ++ a ∷ rest)) (length front) ≡ number_on x a
    go [] = refl
    go (b ∷ front) = go front
