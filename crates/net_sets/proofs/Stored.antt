-- Tuples that are stored by the number of their members.
use Rattle.std.specs.Prelude.{◌≡◌, ℕ, ◌≤◌, ◌<◌, ◌+◌, Bool, true, false, List, [], ◌∷◌, ◌++◌, length, get_or, take, None}
use Rattle.std.specs.List.{position_from, items_where_true, list_all, AllByRecursion, IsDistinct}
use Rattle.std.proofs.Common.{refl, ap, sym, subst, ◌∙◌, arith, add-one}
use Rattle.std.proofs.Math.Seq.{take-suc}
use Rattle.std.proofs.lemmas.Map.Keys.{IsDistinct-from_apart, IsDistinct-cons, IsDistinct-head, IsDistinct-tail}
use Rattle.net_sets.specs.Forms.{AreShort}
use Rattle.net_sets.specs.TupleSets.{IsTupleSet}
use Rattle.net_sets.specs.TupleStores.{IsStore}
use Rattle.net_sets.specs.declared.kept.Kept.TheVariants.{Nothing}
use Rattle.net_sets.specs.Sets.{Tuple, same_tuple, place_of}
use Rattle.net_sets.proofs.Sames.{tuple_decides}

other_form : (P : Tuple → Type 0) (t x : Tuple) → (P t → ⊥) → P x → same_tuple t x ≡ false
other_form P t x other formed = step (same_tuple t x) refl
  where
    step : (b : Bool) → same_tuple t x ≡ b → b ≡ false
    step false e = refl
    step true e = absurd (other (subst P (sym ((tuple_decides t x).0 e)) formed))

none_from : (P : Tuple → Type 0) (i : ℕ) (ts : List Tuple) (t : Tuple) → AllByRecursion P ts → (P t → ⊥) → position_from (same_tuple t) i ts ≡ None
none_from P i [] t formed other = refl
none_from P i (x ∷ ts) t formed other = rw (other_form P t x other formed.0) (none_from P (i + 1) ts t formed.1 other)

-- a tuple of another form has no place
pub none_of_other : (P : Tuple → Type 0) (ts : List Tuple) (t : Tuple) → AllByRecursion P ts → (P t → ⊥) → None ≡ place_of ts t
none_of_other P ts t formed other = sym (none_from P 0 ts t formed other)

pub none_of_longer : (n : ℕ) (ts : List Tuple) (t : Tuple) → AreShort n ts → n < length t → None ≡ place_of ts t
none_of_longer n ts t short longer = none_of_other (λ u. length u ≤ n) ts t short (λ fits. absurd (omega arith))

all_kept : {X : Type 0} (P : X → Type 0) (answers : List Bool) (xs : List X) → AllByRecursion P xs → AllByRecursion P (items_where_true answers xs)
all_kept P [] xs h = tt
all_kept P (b ∷ answers) [] h = tt
all_kept P (true ∷ answers) (x ∷ xs) h = (h.0, all_kept P answers xs h.1)
all_kept P (false ∷ answers) (x ∷ xs) h = all_kept P answers xs h.1

distinct_none : (ts : List Tuple) → IsDistinct same_tuple ts → IsDistinct same_tuple []
distinct_none [] d = d
distinct_none (t ∷ ts) d = distinct_none ts (IsDistinct-tail same_tuple t ts d)

pub distinct_kept : (answers : List Bool) (ts : List Tuple) → IsDistinct same_tuple ts → IsDistinct same_tuple (items_where_true answers ts)
distinct_kept [] ts d = distinct_none ts d
distinct_kept (b ∷ answers) [] d = d
distinct_kept (true ∷ answers) (t ∷ ts) d =
    IsDistinct-cons same_tuple t (items_where_true answers ts) (all_kept (λ u. same_tuple t u ≡ false) answers ts (IsDistinct-head same_tuple t ts d)) (distinct_kept answers ts (IsDistinct-tail same_tuple t ts d))
distinct_kept (false ∷ answers) (t ∷ ts) d = distinct_kept answers ts (IsDistinct-tail same_tuple t ts d)

-- what is kept of short tuples
pub store_kept : (n : ℕ) (answers : List Bool) (ts new : List Tuple) → new ≡ items_where_true answers ts → AreShort n ts → IsDistinct same_tuple ts → AreShort n new × IsDistinct same_tuple new
store_kept n answers ts new is short distinct =
    (subst (AreShort n) (sym is) (all_kept (λ t. length t ≤ n) answers ts short), subst (IsDistinct same_tuple) (sym is) (distinct_kept answers ts distinct))

none_distinct : IsDistinct same_tuple []
none_distinct = IsDistinct-from_apart same_tuple [] (λ i j d before there. absurd (omega arith))

pub one_distinct : (t : Tuple) → IsDistinct same_tuple (t ∷ [])
one_distinct t = IsDistinct-cons same_tuple t [] tt none_distinct

pub nothing_stored : IsStore Nothing
nothing_stored = record { shape = tt; distinct = none_distinct }

pub no_more_kept : {X : Type 0} (answers : List Bool) (xs : List X) → length (items_where_true answers xs) ≤ length xs
no_more_kept [] xs = omega arith
no_more_kept (b ∷ answers) [] = omega arith
no_more_kept (true ∷ answers) (x ∷ xs) = let more = no_more_kept answers xs in omega arith
no_more_kept (false ∷ answers) (x ∷ xs) = let more = no_more_kept answers xs in omega arith

pub set_kept : (answers : List Bool) (ts new : List Tuple) → new ≡ items_where_true answers ts → IsTupleSet ts → IsTupleSet new
set_kept answers ts new is set = subst IsTupleSet (sym is) (record {
  distinct = distinct_kept answers ts set.distinct;
  few = let less = no_more_kept answers ts in let few = set.few in omega arith;
})

short_more : (n : ℕ) (ts : List Tuple) (t : Tuple) → AreShort n ts → length t ≤ n → AreShort n (ts ++ t ∷ [])
short_more n [] t short new = (new, tt)
short_more n (x ∷ ts) t short new = (short.0, short_more n ts t short.1 new)

-- the turn of a loop that copies short tuples
pub short_in_turn : (n : ℕ) (ts : List Tuple) (i : ℕ) → AreShort n (take i ts) → length (get_or ts i []) ≤ n → i < length ts → AreShort n (take (i + 1) ts)
short_in_turn n ts i short new h =
    subst (AreShort n) (sym (ap (λ k. take k ts) (add-one i) ∙ take-suc ts i [] h)) (short_more n (take i ts) (get_or ts i []) short new)

-- all answers are true
pub all_chosen : (answers : List Bool) (ts : List Tuple) → length answers ≡ length ts → list_all (λ answer. answer) answers ≡ true → items_where_true answers ts ≡ ts
all_chosen [] [] size all = refl
all_chosen [] (t ∷ ts) size all = absurd (omega (arith, size))
all_chosen (b ∷ answers) [] size all = absurd (omega (arith, size))
all_chosen (true ∷ answers) (t ∷ ts) size all = ap (λ us. t ∷ us) (all_chosen answers ts (omega (arith, size)) all)
all_chosen (false ∷ answers) (t ∷ ts) size all = cc
