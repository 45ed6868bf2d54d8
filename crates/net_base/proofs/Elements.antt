-- What holds of each element of a list holds of the elements of what is made of it.
use Rattle.std.specs.Prelude.{ℕ, zero, suc, Bool, true, false, cond, List, [], ◌∷◌, ◌++◌, take, drop, filter, slice_get, slice_set, slice_index_or, Option, None, Some, ⊤}
use Rattle.std.specs.List.{AllByRecursion}

-- of the one that is there
abbrev pub OfSome : {A : Type 0} → (A → Type 0) → Option A → Type 0
OfSome Q None = ⊤
OfSome Q (Some a) = Q a

module _ {A : Type 0} (Q : A → Type 0) where
  pub all_take : (n : ℕ) (xs : List A) → AllByRecursion Q xs → AllByRecursion Q (take n xs)
  all_take zero xs h = tt
  all_take (suc n) [] h = tt
  all_take (suc n) (x ∷ xs) h = (h.0, all_take n xs h.1)

  pub all_drop : (n : ℕ) (xs : List A) → AllByRecursion Q xs → AllByRecursion Q (drop n xs)
  all_drop zero xs h = h
  all_drop (suc n) [] h = tt
  all_drop (suc n) (x ∷ xs) h = all_drop n xs h.1

  pub all_append : (xs ys : List A) → AllByRecursion Q xs → AllByRecursion Q ys → AllByRecursion Q (xs ++ ys)
  all_append [] ys h k = k
  all_append (x ∷ xs) ys h k = (h.0, all_append xs ys h.1 k)

  pub all_left : (xs ys : List A) → AllByRecursion Q (xs ++ ys) → AllByRecursion Q xs
  all_left [] ys h = tt
  all_left (x ∷ xs) ys h = (h.0, all_left xs ys h.1)

  pub all_right : (xs ys : List A) → AllByRecursion Q (xs ++ ys) → AllByRecursion Q ys
  all_right [] ys h = h
  all_right (x ∷ xs) ys h = all_right xs ys h.1

  pub all_filter : (test : A → Bool) (xs : List A) → AllByRecursion Q xs → AllByRecursion Q (filter test xs)
  all_filter test [] h = tt
  all_filter test (x ∷ xs) h = go (test x) (all_filter test xs h.1)
    where
      go : (b : Bool) → AllByRecursion Q (filter test xs) → AllByRecursion Q (cond b (x ∷ filter test xs) (filter test xs))
      go true k = (h.0, k)
      go false k = k

  pub all_get : (xs : List A) (i : ℕ) → AllByRecursion Q xs → OfSome Q (slice_get xs i)
  all_get [] i h = tt
  all_get (x ∷ xs) zero h = h.0
  all_get (x ∷ xs) (suc i) h = all_get xs i h.1

  pub all_set : (xs : List A) (i : ℕ) (y : A) → AllByRecursion Q xs → Q y → AllByRecursion Q (slice_set xs i y)
  all_set [] i y h k = tt
  all_set (x ∷ xs) zero y h k = (k, h.1)
  all_set (x ∷ xs) (suc i) y h k = (h.0, all_set xs i y h.1 k)

  pub all_index : (xs : List A) (i : ℕ) (d : A) → AllByRecursion Q xs → Q d → Q (slice_index_or xs i d)
  all_index [] i d h k = k
  all_index (x ∷ xs) zero d h k = h.0
  all_index (x ∷ xs) (suc i) d h k = all_index xs i d h.1 k
