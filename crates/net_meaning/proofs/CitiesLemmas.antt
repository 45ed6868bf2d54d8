-- For the worked example of the eight cities: the numerals of its files, and lemmas that compute lists and keys.
use Rattle.std.specs.Prelude.{◌≡◌, ◌||◌, ◌&&◌, if◌then◌else◌, ℕ, Bool, true, false, cond, List, [], ◌∷◌, map, length, Option, None, Some, codes, pos, IsTrue}
use Rattle.std.specs.List.{AllByRecursion, IsDistinct, list_any, list_all}
use Rattle.std.specs.Option.{ForSome}
use Rattle.std.proofs.Common.{refl, subst, inl}
use Rattle.std.proofs.Math.Dec.{eqb}
use Rattle.std.proofs.lemmas.Bool.{eqb-true}
use Rattle.net_lex.specs.Limits.{limits}
use Rattle.net_lex.specs.NumeralFront.{mantissa_at, power_at, numeral_at}
use Rattle.net_lex.specs.Numerals.{IsValue as IsNumeral}
use Rattle.net_lex.specs.Significands.{whole_value}
use Rattle.net_sets.specs.declared.member.Member.{Member}
use Rattle.net_sets.specs.Names as names
use Rattle.net_sets.specs.Sets.{Tuple, same_tuple, has, at_key}
use Rattle.net_tree.specs.Role.{role_of, marks, keys}
use Rattle.net_tree.specs.Syntax.{absent}
use Rattle.net_tree.specs.Numerals.{number_in}
use Rattle.net_meaning.specs.Values.{SetOf, World, Key, env_of, start, extended, a_set, FromEach, AreKeys, HasTruth, Filters}
use Rattle.net_meaning.specs.World.{keys_of}
use Rattle.net_meaning.proofs.Naming.{numeral_is}
use Rattle.net_meaning.proofs.Cities.{over}

-- ---- numerals of the model and its data

pub n0 : IsNumeral limits.value (codes "0") (pos 0)
unfolding number_in numeral_at mantissa_at power_at whole_value
n0 = numeral_is (codes "0") (pos 0) refl

pub n450 : IsNumeral limits.value (codes "450") (pos 450)
unfolding number_in numeral_at mantissa_at power_at whole_value
n450 = numeral_is (codes "450") (pos 450) refl

pub n90 : IsNumeral limits.value (codes "90") (pos 90)
unfolding number_in numeral_at mantissa_at power_at whole_value
n90 = numeral_is (codes "90") (pos 90) refl

pub n120 : IsNumeral limits.value (codes "120") (pos 120)
unfolding number_in numeral_at mantissa_at power_at whole_value
n120 = numeral_is (codes "120") (pos 120) refl

pub n70 : IsNumeral limits.value (codes "70") (pos 70)
unfolding number_in numeral_at mantissa_at power_at whole_value
n70 = numeral_is (codes "70") (pos 70) refl

pub n50 : IsNumeral limits.value (codes "50") (pos 50)
unfolding number_in numeral_at mantissa_at power_at whole_value
n50 = numeral_is (codes "50") (pos 50) refl

pub n25 : IsNumeral limits.value (codes "25") (pos 25)
unfolding number_in numeral_at mantissa_at power_at whole_value
n25 = numeral_is (codes "25") (pos 25) refl

pub n35 : IsNumeral limits.value (codes "35") (pos 35)
unfolding number_in numeral_at mantissa_at power_at whole_value
n35 = numeral_is (codes "35") (pos 35) refl

pub n17 : IsNumeral limits.value (codes "17") (pos 17)
unfolding number_in numeral_at mantissa_at power_at whole_value
n17 = numeral_is (codes "17") (pos 17) refl

pub n7 : IsNumeral limits.value (codes "7") (pos 7)
unfolding number_in numeral_at mantissa_at power_at whole_value
n7 = numeral_is (codes "7") (pos 7) refl

pub n13 : IsNumeral limits.value (codes "13") (pos 13)
unfolding number_in numeral_at mantissa_at power_at whole_value
n13 = numeral_is (codes "13") (pos 13) refl

pub n8 : IsNumeral limits.value (codes "8") (pos 8)
unfolding number_in numeral_at mantissa_at power_at whole_value
n8 = numeral_is (codes "8") (pos 8) refl

pub n2 : IsNumeral limits.value (codes "2") (pos 2)
unfolding number_in numeral_at mantissa_at power_at whole_value
n2 = numeral_is (codes "2") (pos 2) refl

pub n21 : IsNumeral limits.value (codes "21") (pos 21)
unfolding number_in numeral_at mantissa_at power_at whole_value
n21 = numeral_is (codes "21") (pos 21) refl

pub n250 : IsNumeral limits.value (codes "250") (pos 250)
unfolding number_in numeral_at mantissa_at power_at whole_value
n250 = numeral_is (codes "250") (pos 250) refl

pub n100 : IsNumeral limits.value (codes "100") (pos 100)
unfolding number_in numeral_at mantissa_at power_at whole_value
n100 = numeral_is (codes "100") (pos 100) refl

-- ---- keys

-- if the item takes each tuple to one key, these are the keys
pub each : {A : Type 0} (Place : Tuple → Option Key → Type 0) (t : A → Tuple) (k : A → Key) → ((a : A) → Place (t a) (Some (k a))) → (all : List A)
    → FromEach Place (λ q keys. keys ≡ q ∷ []) (map t all) (map k all)
each Place t k h [] = refl
each Place t k h (a ∷ all) = (Some (k a), k a ∷ [], map k all, h a, refl, each Place t k h all, refl)

-- without a condition all keys are left
pub all_left : (ks : List Key) → Filters (HasTruth absent) ks ks
all_left [] = refl
all_left (k ∷ ks) = (ks, all_left ks, inl (refl, refl))

pub have_lengths : {A : Type 0} (d : ℕ) (k : A → Key) → ((a : A) → length (k a).key ≡ d) → (all : List A) → AllByRecursion (λ t. length t ≡ d) (map (λ (q : Key). q.key) (map k all))
have_lengths d k h [] = tt
have_lengths d k h (a ∷ all) = (h a, have_lengths d k h all)

-- the keys of {S} are the tuples of S
abbrev pub key_over : {A : Type 0} → World → (A → Tuple) → A → Key
key_over w t a = extended (start (env_of w [])) (t a)

pub keys_over : {A : Type 0} (w : World) (s : List ℕ) (d : ℕ) (t : A → Tuple) → ((a : A) → length (t a) ≡ d) → (all : List A) → names.named w s ≡ Some (SetOf (map t all))
    → AreKeys (env_of w []) (over s) (map (key_over w t) all)
unfolding role_of marks keys
keys_over w s d t long all h = inl (
  map (key_over w t) all,
  (map t all, a_set (map t all) refl h, each (λ u r. r ≡ Some (extended (start (env_of w [])) u)) t (key_over w t) (λ a. refl) all),
  (d, have_lengths d (key_over w t) long all),
  all_left (map (key_over w t) all),
)

-- a table with these keys has no other
pub none_elsewhere : {A : Type 0} (w : World) (t : A → Tuple) (m : A → Member) (all : List A) (key : Tuple) → has (keys_of (map (key_over w t) all)) key ≡ false → at_key (map (λ a. (t a, m a)) all) key ≡ None
none_elsewhere w t m [] key h = refl
none_elsewhere w t m (a ∷ all) key h = go (same_tuple key (t a)) h (none_elsewhere w t m all key)
  where
    go : (b : Bool) → (b || has (keys_of (map (key_over w t) all)) key) ≡ false → (has (keys_of (map (key_over w t) all)) key ≡ false → at_key (map (λ z. (t z, m z)) all) key ≡ None)
        → cond b (Some (m a)) (at_key (map (λ z. (t z, m z)) all) key) ≡ None
    go true i more = cc
    go false i more = more i

-- ---- lists

pub some_is : {A : Type 0} (a b : A) → Some a ≡ Some b → a ≡ b
some_is a b e = cc

pub for_some : {A : Type 0} (P : A → Type 0) (a : A) → P a → ForSome (Some a) P
for_some P a h b e = subst P (some_is a b e) h

pub differ_from : {K : Type 0} (e : K → K → Bool) (x : K) (ys : List K) → list_any (e x) ys ≡ false → AllByRecursion (λ y. e x y ≡ false) ys
differ_from e x [] h = tt
differ_from e x (y ∷ ys) h = go (e x y) refl (differ_from e x ys) h
  where
    go : (b : Bool) → e x y ≡ b → (list_any (e x) ys ≡ false → AllByRecursion (λ z. e x z ≡ false) ys) → (b || list_any (e x) ys) ≡ false → (e x y ≡ false) × AllByRecursion (λ z. e x z ≡ false) ys
    go true i f k = cc
    go false i f k = (i, f k)

-- no key is equal to one after it, as computed
abbrev pub is_distinct : {K : Type 0} → (K → K → Bool) → List K → Bool
is_distinct e [] = true
is_distinct e (x ∷ xs) = if list_any (e x) xs then false else is_distinct e xs

pub are_distinct : {K : Type 0} (e : K → K → Bool) (xs : List K) → is_distinct e xs ≡ true → IsDistinct e xs
unfolding IsDistinct
are_distinct e [] h = tt
are_distinct e (x ∷ xs) h = go (list_any (e x) xs) refl (are_distinct e xs) h
  where
    go : (b : Bool) → list_any (e x) xs ≡ b → (is_distinct e xs ≡ true → IsDistinct e xs) → (if b then false else is_distinct e xs) ≡ true → IsDistinct e (x ∷ xs)
    go true i f k = cc
    go false i f k = (differ_from e x xs i, f k)

pub all_pass : {A : Type 0} (test : A → Bool) (xs : List A) → list_all test xs ≡ true → AllByRecursion (λ x. IsTrue (test x)) xs
all_pass test [] h = tt
all_pass test (x ∷ xs) h = go (test x) refl (all_pass test xs) h
  where
    go : (b : Bool) → test x ≡ b → (list_all test xs ≡ true → AllByRecursion (λ y. IsTrue (test y)) xs) → (b && list_all test xs) ≡ true → (test x ≡ true) × AllByRecursion (λ y. IsTrue (test y)) xs
    go true i f k = (i, f k)
    go false i f k = cc

pub have_length : (d : ℕ) (ts : List Tuple) → list_all (λ t. eqb (length t) d) ts ≡ true → AllByRecursion (λ t. length t ≡ d) ts
have_length d [] h = tt
have_length d (t ∷ ts) h = go (eqb (length t) d) refl (have_length d ts) h
  where
    go : (b : Bool) → eqb (length t) d ≡ b → (list_all (λ u. eqb (length u) d) ts ≡ true → AllByRecursion (λ u. length u ≡ d) ts) → (b && list_all (λ u. eqb (length u) d) ts) ≡ true
        → (length t ≡ d) × AllByRecursion (λ u. length u ≡ d) ts
    go true i f k = (eqb-true (length t) d i, f k)
    go false i f k = cc

pub all_keys : {A : Type 0} (P : Key → Type 0) (k : A → Key) → ((a : A) → P (k a)) → (all : List A) → AllByRecursion P (map k all)
all_keys P k h [] = tt
all_keys P k h (a ∷ all) = (h a, all_keys P k h all)
