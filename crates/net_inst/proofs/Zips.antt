-- Lists place by place.
use Rattle.std.specs.Prelude.{◌≡◌, ◌+◌, ◌<◌, ℕ, zero, suc, Bool, true, false, List, [], ◌∷◌, ◌++◌, length, map, slice_get, Some, Ok, Err}
use Rattle.std.specs.List.{AllByRecursion, AllZip, IsDistinct}
use Rattle.std.proofs.Common.{refl, ap, arith}
use Rattle.net_base.specs.Outcomes.{Outcome, and_then}

pub ok_then : {A B P : Type 0} (o : Outcome A) (f : A → Outcome B) (r : B) → and_then o f ≡ Ok r → ((y : A) → o ≡ Ok y → f y ≡ Ok r → P) → P
ok_then (Ok y) f r e k = k y refl e
ok_then (Err x) f r e k = cc

pub ok_is : {A : Type 0} (a b : A) → (let o : Outcome A = Ok a in o ≡ Ok b) → a ≡ b
ok_is a b e = cc

pub map_map : {A B C : Type 0} (f : B → C) (g : A → B) (xs : List A) → map f (map g xs) ≡ map (λ x. f (g x)) xs
map_map f g [] = refl
map_map f g (x ∷ xs) = ap (◌∷◌ (f (g x))) (map_map f g xs)

pub map_join : {A B : Type 0} (f : A → B) (xs ys : List A) → map f (xs ++ ys) ≡ map f xs ++ map f ys
map_join f [] ys = refl
map_join f (x ∷ xs) ys = ap (◌∷◌ (f x)) (map_join f xs ys)

pub zip_join : {A B : Type 0} (R : A → B → Type 0) (xs us : List A) (ys vs : List B) → AllZip R xs ys → AllZip R us vs → AllZip R (xs ++ us) (ys ++ vs)
zip_join R [] us [] vs h k = k
zip_join R [] us (y ∷ ys) vs h k = absurd h
zip_join R (x ∷ xs) us [] vs h k = absurd h
zip_join R (x ∷ xs) us (y ∷ ys) vs h k = (h.0, zip_join R xs us ys vs h.1 k)

pub zip_as : {A B : Type 0} (R Q : A → B → Type 0) (xs : List A) (ys : List B) → ((x : A) (y : B) → R x y → Q x y) → AllZip R xs ys → AllZip Q xs ys
zip_as R Q [] [] f h = tt
zip_as R Q [] (y ∷ ys) f h = absurd h
zip_as R Q (x ∷ xs) [] f h = absurd h
zip_as R Q (x ∷ xs) (y ∷ ys) f h = (f x y h.0, zip_as R Q xs ys f h.1)

pub zip_long : {A B : Type 0} (R : A → B → Type 0) (xs : List A) (ys : List B) → AllZip R xs ys → length ys ≡ length xs
zip_long R [] [] h = refl
zip_long R [] (y ∷ ys) h = absurd h
zip_long R (x ∷ xs) [] h = absurd h
zip_long R (x ∷ xs) (y ∷ ys) h = ap suc (zip_long R xs ys h.1)

-- at a place of the front, and behind it
pub get_front : {A : Type 0} (xs ys : List A) (v : ℕ) (x : A) → slice_get xs v ≡ Some x → slice_get (xs ++ ys) v ≡ Some x
get_front [] ys v x e = absurd (let h = e in cc)
get_front (y ∷ xs) ys zero x e = e
get_front (y ∷ xs) ys (suc v) x e = get_front xs ys v x e

pub get_after : {A : Type 0} (xs ys : List A) (i v : ℕ) → v ≡ length xs + i → slice_get (xs ++ ys) v ≡ slice_get ys i
get_after [] ys i v e = ap (slice_get ys) (omega (arith, e))
get_after (x ∷ xs) ys i zero e = absurd (omega (arith, e))
get_after (x ∷ xs) ys i (suc v) e = get_after xs ys i v (omega (arith, e))

pub get_last : {A : Type 0} (xs ys : List A) (y : A) → slice_get (xs ++ y ∷ ys) (length xs) ≡ Some y
get_last xs ys y = get_after xs (y ∷ ys) 0 (length xs) (omega arith)

pub get_below : {A : Type 0} (xs : List A) (v : ℕ) (x : A) → slice_get xs v ≡ Some x → v < length xs
get_below [] v x e = absurd (let h = e in cc)
get_below (y ∷ xs) zero x e = omega arith
get_below (y ∷ xs) (suc v) x e = let behind = get_below xs v x e in omega (arith, behind)

-- distinct lists
all_front : {A : Type 0} (P : A → Type 0) (xs ys : List A) → AllByRecursion P (xs ++ ys) → AllByRecursion P xs
all_front P [] ys h = tt
all_front P (x ∷ xs) ys h = (h.0, all_front P xs ys h.1)

pub distinct_front : {A : Type 0} (eq : A → A → Bool) (xs ys : List A) → IsDistinct eq (xs ++ ys) → IsDistinct eq xs
unfolding IsDistinct
distinct_front eq [] ys h = tt
distinct_front eq (x ∷ xs) ys h = (all_front (λ y. eq x y ≡ false) xs ys h.0, distinct_front eq xs ys h.1)

pub distinct_after : {A : Type 0} (eq : A → A → Bool) (xs ys : List A) → IsDistinct eq (xs ++ ys) → IsDistinct eq ys
unfolding IsDistinct
distinct_after eq [] ys h = h
distinct_after eq (x ∷ xs) ys h = distinct_after eq xs ys h.1

-- keys are distinct where what is made of them is
pub distinct_of : {A B : Type 0} (eq : A → A → Bool) (other : B → B → Bool) (f : A → B) (xs : List A) → ((x y : A) → eq x y ≡ true → other (f x) (f y) ≡ true) → IsDistinct other (map f xs) → IsDistinct eq xs
unfolding IsDistinct
distinct_of eq other f [] same h = tt
distinct_of {A = A} eq other f (x ∷ xs) same h = (go xs h.0, distinct_of eq other f xs same h.1)
  where
    step : (y : A) (b : Bool) → eq x y ≡ b → other (f x) (f y) ≡ false → b ≡ false
    step y true e k = absurd (let l = same x y e in cc)
    step y false e k = refl

    go : (ys : List A) → AllByRecursion (λ z. other (f x) z ≡ false) (map f ys) → AllByRecursion (λ y. eq x y ≡ false) ys
    go [] k = tt
    go (y ∷ ys) k = (step y (eq x y) refl k.0, go ys k.1)
