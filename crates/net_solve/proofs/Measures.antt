-- The measure of the sendings: what the nodes have too much of, together.
use Rattle.std.proofs.Common.{◌≡◌, ◌≢◌, ℕ, zero, suc, ◌<◌, ◌≤◌, Bool, true, false, cond, List, [], ◌∷◌, length, get_or, ℤ, pos, negsuc, ◌+ℤ◌, ◌-ℤ◌, ◌≤ℤ◌, ◌<ℤ◌, nat_eq, refl, sym, ap, subst, eq-eqb, eqb-true, arith}
use Rattle.std.proofs.lemmas.Int.{ints}
use Rattle.std.proofs.lemmas.Bool.{ne_eqb}
use Rattle.net_solve.specs.Pseudoflows.{positive, too_much, Moves}

pub positive-none : (x : ℤ) → x ≤ℤ pos 0 → positive x ≡ 0
positive-none (pos n) h = omega (arith, ints, h)
positive-none (negsuc n) h = refl

pub positive-le : (x y : ℤ) → y ≤ℤ x → positive y ≤ positive x
positive-le (pos m) (pos n) h = omega (arith, ints, h)
positive-le (pos m) (negsuc n) h = omega arith
positive-le (negsuc m) (pos n) h = absurd (omega (arith, ints, h))
positive-le (negsuc m) (negsuc n) h = omega arith

pub positive-less : (x y : ℤ) → y <ℤ x → pos 0 <ℤ x → positive y < positive x
positive-less (pos m) (pos n) h k = omega (arith, ints, h)
positive-less (pos m) (negsuc n) h k = omega (arith, ints, k)
positive-less (negsuc m) y h k = absurd (omega (arith, ints, k))

total-le : (xs ys : List ℤ) → length ys ≡ length xs → ((v : ℕ) → v < length xs → positive (get_or ys v (pos 0)) ≤ positive (get_or xs v (pos 0))) → too_much ys ≤ too_much xs
total-le [] [] h f = omega arith
total-le [] (y ∷ ys) h f = absurd (omega (arith, h))
total-le (x ∷ xs) [] h f = absurd (omega (arith, h))
total-le (x ∷ xs) (y ∷ ys) h f = let here : positive y ≤ positive x = f 0 (omega arith) in let rest = total-le xs ys (omega (arith, h)) (λ v l. f (suc v) (omega (arith, l))) in omega (arith, here, rest)

total-less : (xs ys : List ℤ) (u : ℕ) → length ys ≡ length xs → u < length xs → ((v : ℕ) → v < length xs → positive (get_or ys v (pos 0)) ≤ positive (get_or xs v (pos 0))) → positive (get_or ys u (pos 0)) < positive (get_or xs u (pos 0)) → too_much ys < too_much xs
total-less [] ys u h k f l = absurd (omega (arith, k))
total-less (x ∷ xs) [] u h k f l = absurd (omega (arith, h))
total-less (x ∷ xs) (y ∷ ys) zero h k f l = let rest = total-le xs ys (omega (arith, h)) (λ v m. f (suc v) (omega (arith, m))) in omega (arith, l, rest)
total-less (x ∷ xs) (y ∷ ys) (suc u) h k f l = let here : positive y ≤ positive x = f 0 (omega arith) in let rest = total-less xs ys u (omega (arith, h)) (omega (arith, k)) (λ v m. f (suc v) (omega (arith, m))) l in omega (arith, here, rest)

moved-one : (p q : Bool) (x y d : ℤ) → pos 0 ≤ℤ d → (q ≡ true → (x +ℤ d) ≤ℤ pos 0) → y ≡ (x -ℤ cond p d (pos 0)) +ℤ cond q d (pos 0) → positive y ≤ positive x
moved-one true true x y d z h e = positive-le x y (omega (arith, ints, e))
moved-one true false x y d z h e = positive-le x y (omega (arith, ints, e, z))
moved-one false false x y d z h e = positive-le x y (omega (arith, ints, e))
moved-one false true x y d z h e = let none = positive-none y (omega (arith, ints, e, h refl)) in omega (arith, none)

-- nothing more is too much where v had a deficit of at least the amount
pub moved-le : (n u v : ℕ) (d : ℤ) (old new : List ℤ) → length old ≡ n → length new ≡ n → pos 0 ≤ℤ d → (get_or old v (pos 0) +ℤ d) ≤ℤ pos 0 → Moves n u v d old new → too_much new ≤ too_much old
moved-le n u v d old new h k z deficit moves =
    total-le old new (omega (arith, h, k)) (λ w l. moved-one (nat_eq u w) (nat_eq v w) (get_or old w (pos 0)) (get_or new w (pos 0)) d z
    (λ e. let same : v ≡ w = eqb-true v w e in subst (λ (x : ℕ). (get_or old x (pos 0) +ℤ d) ≤ℤ pos 0) same deficit) (moves w (omega (arith, l, h))))

-- and less is too much where u had too much
pub moved-less : (n u v : ℕ) (d : ℤ) (old new : List ℤ) → length old ≡ n → length new ≡ n → u < n → u ≢ v → pos 0 <ℤ d → (get_or old v (pos 0) +ℤ d) ≤ℤ pos 0 → pos 0 <ℤ get_or old u (pos 0) → Moves n u v d old new → too_much new < too_much old
moved-less n u v d old new h k inside apart z deficit some moves =
    let each : (w : ℕ) → w < length old → positive (get_or new w (pos 0)) ≤ positive (get_or old w (pos 0))
    = λ w l. moved-one (nat_eq u w) (nat_eq v w) (get_or old w (pos 0)) (get_or new w (pos 0)) d (omega (arith, ints, z))
    (λ e. let same : v ≡ w = eqb-true v w e in subst (λ (x : ℕ). (get_or old x (pos 0) +ℤ d) ≤ℤ pos 0) same deficit) (moves w (omega (arith, l, h))) in
    let here : cond (nat_eq u u) d (pos 0) ≡ d = ap (λ (b : Bool). cond b d (pos 0)) (eq-eqb u u refl) in
    let there : cond (nat_eq v u) d (pos 0) ≡ pos 0 = ap (λ (b : Bool). cond b d (pos 0)) (ne_eqb v u (λ e. apart (sym e))) in
    total-less old new u (omega (arith, h, k)) (omega (arith, inside, h)) each (positive-less (get_or old u (pos 0)) (get_or new u (pos 0)) (omega (arith, ints, moves u inside, here, there, z)) some)
