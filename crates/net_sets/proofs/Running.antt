-- Consecutive numbers, each as a tuple.
use Rattle.std.specs.Prelude.{◌≡◌, ℕ, zero, suc, ◌+◌, ◌<◌, ◌≤◌, Bool, true, false, List, [], ◌∷◌, ◌++◌, slice_get, Some, None, ℤ, pos, ◌+ℤ◌}
use Rattle.std.specs.List.{position_from, AllByRecursion, IsDistinct}
use Rattle.std.proofs.Common.{refl, ap, sym, ◌∙◌, arith}
use Rattle.std.proofs.lemmas.Int.{ints}
use Rattle.std.proofs.lemmas.Map.Keys.{IsDistinct-cons, IsDistinct-from_apart}
use Rattle.net_sets.specs.declared.member.Member.TheVariants.{Number}
use Rattle.net_sets.specs.Forms.{AreShort}
use Rattle.net_sets.specs.Ranges.{number_at}
use Rattle.net_sets.specs.Runs.{AreNumbers, run}
use Rattle.net_sets.specs.Sets.{Tuple, has, same_tuple, place_of}
use Rattle.net_sets.proofs.Sames.{tuple_decides, same_itself}
use Rattle.net_sets.proofs.Listing.{one_more, new_number}

abbrev alone : ℤ → Tuple
alone x = Number x ∷ []

alone_same : (x y : ℤ) → alone x ≡ alone y → x ≡ y
alone_same x y e = cc

other : (x y : ℤ) → (x ≡ y → ⊥) → same_tuple (alone x) (alone y) ≡ false
other x y differ = step (same_tuple (alone x) (alone y)) refl
  where
    step : (b : Bool) → same_tuple (alone x) (alone y) ≡ b → b ≡ false
    step false e = refl
    step true e = absurd (differ (alone_same x y ((tuple_decides (alone x) (alone y)).0 e)))

from_next : (f : ℤ) (k : ℕ) → (f +ℤ pos 1) +ℤ pos k ≡ f +ℤ pos (suc k)
from_next f k = omega (arith, ints)

from_first : (f : ℤ) → f ≡ f +ℤ pos 0
from_first f = omega (arith, ints)

pub run_there : (f : ℤ) (n k : ℕ) → k < n → slice_get (run f n) k ≡ Some (Number (f +ℤ pos k) ∷ [])
run_there f zero k h = absurd (omega arith)
run_there f (suc n) zero h = ap (λ x. Some (alone x)) (from_first f)
run_there f (suc n) (suc k) h = run_there (f +ℤ pos 1) n k (omega arith) ∙ ap (λ x. Some (alone x)) (from_next f k)

pub run_past : (f : ℤ) (n k : ℕ) → n ≤ k → slice_get (run f n) k ≡ None
run_past f zero k h = refl
run_past f (suc n) zero h = absurd (omega arith)
run_past f (suc n) (suc k) h = run_past (f +ℤ pos 1) n k (omega arith)

-- none of the numbers is x
abbrev pub Misses : ℤ → ℕ → ℤ → Type 0
Misses f n x = (k : ℕ) → k < n → x ≡ f +ℤ pos k → ⊥

misses_next : (f : ℤ) (n : ℕ) (x : ℤ) → Misses f (suc n) x → Misses (f +ℤ pos 1) n x
misses_next f n x misses k h e = misses (suc k) (omega arith) (e ∙ from_next f k)

misses_first : (f : ℤ) (n : ℕ) (x : ℤ) → Misses f (suc n) x → x ≡ f → ⊥
misses_first f n x misses e = misses 0 (omega arith) (e ∙ from_first f)

placed_from : (f : ℤ) (n k i : ℕ) → k < n → position_from (same_tuple (alone (f +ℤ pos k))) i (run f n) ≡ Some (i + k)
placed_from f zero k i h = absurd (omega arith)
placed_from f (suc n) zero i h = rw (← from_first f, same_itself (alone f)) (ap Some (omega arith))
placed_from f (suc n) (suc k) i h =
    rw (other (f +ℤ pos (suc k)) f (λ e. absurd (omega (arith, ints)))) (
    ap (λ x. position_from (same_tuple (alone x)) (i + 1) (run (f +ℤ pos 1) n)) (sym (from_next f k)) ∙ (placed_from (f +ℤ pos 1) n k (i + 1) (omega arith) ∙ ap Some (omega arith)))

pub placed : (f : ℤ) (n k : ℕ) (x : ℤ) → x ≡ f +ℤ pos k → k < n → Some k ≡ place_of (run f n) (Number x ∷ [])
placed f n k x is h = sym (ap (λ y. place_of (run f n) (alone y)) is ∙ (placed_from f n k 0 h ∙ ap Some (omega arith)))

missing_from : (f : ℤ) (n i : ℕ) (x : ℤ) → Misses f n x → position_from (same_tuple (alone x)) i (run f n) ≡ None
missing_from f zero i x misses = refl
missing_from f (suc n) i x misses = rw (other x f (misses_first f n x misses)) (missing_from (f +ℤ pos 1) n (i + 1) x (misses_next f n x misses))

pub missing : (f : ℤ) (n : ℕ) (x : ℤ) → Misses f n x → None ≡ place_of (run f n) (Number x ∷ [])
missing f n x misses = sym (missing_from f n 0 x misses)

all_other : (f : ℤ) (n : ℕ) (x : ℤ) → Misses f n x → AllByRecursion (λ u. same_tuple (alone x) u ≡ false) (run f n)
all_other f zero x misses = tt
all_other f (suc n) x misses = (other x f (misses_first f n x misses), all_other (f +ℤ pos 1) n x (misses_next f n x misses))

pub run_numbers : (f : ℤ) (n : ℕ) → AreNumbers (run f n)
run_numbers f zero = tt
run_numbers f (suc n) = (refl, run_numbers (f +ℤ pos 1) n)

pub run_short : (f : ℤ) (n : ℕ) → AreShort 1 (run f n)
run_short f zero = tt
run_short f (suc n) = (omega arith, run_short (f +ℤ pos 1) n)

pub run_distinct : (f : ℤ) (n : ℕ) → IsDistinct same_tuple (run f n)
run_distinct f zero = IsDistinct-from_apart same_tuple [] (λ i j d before there. absurd (omega arith))
run_distinct f (suc n) =
    IsDistinct-cons same_tuple (alone f) (run (f +ℤ pos 1) n) (all_other (f +ℤ pos 1) n f (λ k h e. absurd (omega (arith, ints)))) (run_distinct (f +ℤ pos 1) n)

-- what comes next
from_last : (f : ℤ) (n : ℕ) → number_at f (pos 1) n ≡ f +ℤ pos n
from_last f n = omega (arith, ints)

pub run_next : (f : ℤ) (n : ℕ) (x : ℤ) → x ≡ f +ℤ pos n → (old : List Tuple) → old ≡ run f n → run f (n + 1) ≡ old ++ (Number x ∷ []) ∷ []
run_next f n x is old same =
    sym (one_more old (old ++ alone x ∷ []) f (pos 1) n (alone x) same (ap alone (is ∙ sym (from_last f n))) refl)

pub not_there : (f : ℤ) (n : ℕ) (x : ℤ) → x ≡ f +ℤ pos n → has (run f n) (Number x ∷ []) ≡ false
not_there f n x is = ap (λ y. has (run f n) (alone y)) (is ∙ sym (from_last f n)) ∙ new_number f (pos 1) n (λ e. cc)
