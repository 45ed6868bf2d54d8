-- Digits one by one are the number that they are, cut off, and fields one by one the numbers that they are.
use Rattle.std.proofs.Common.{◌≡◌, ◌≤◌, ◌<◌, ℕ, ◌+◌, ◌-◌, ◌*◌, min, Bool, true, false, cond, ◌&&◌, List, [], ◌∷◌, ◌++◌, ℤ, Some, None, refl, ap, ◌∙◌, fold, map, replicate, append_assoc, arith, inl, inr}
use Rattle.std.specs.Prelude.{Option}
use Rattle.std.specs.Option.{option_map}
use Rattle.std.specs.Char.{is_ascii_digit}
use Rattle.std.specs.Str.{all_ascii_digits}
use Rattle.std.proofs.lemmas.Bool.{cases_lt}
use Rattle.std.proofs.lemmas.List.{replicate_more}
use Rattle.net_dimacs.specs.Lines.{value_after, natural_of, number_of}
use Rattle.net_dimacs.specs.declared.integer.Numbers.{Numbers}
use Rattle.net_dimacs.specs.declared.integer.Numbers.TheVariants.{Zero, Other}
use Rattle.net_dimacs.specs.Claims.{integer_of, numbers_in}
use Rattle.net_dimacs.specs.Numerals.{with_digit, size_after, size_of, with_integer}

-- ---- digits

with_digit_cut : (top n b : ℕ) → with_digit top (min n top) b ≡ min (n * 10 + (b - 48)) top
with_digit_cut top n b = omega arith

size_step : (top n b : ℕ) (bs : List ℕ) (is_digit : Bool) → size_after top (min (n * 10 + (b - 48)) top) bs ≡ cond (all_ascii_digits bs) (Some (min (value_after (n * 10 + (b - 48)) bs) top)) None
    → cond is_digit (size_after top (with_digit top (min n top) b) bs) None ≡ cond (is_digit && all_ascii_digits bs) (Some (min (value_after (n * 10 + (b - 48)) bs) top)) None
size_step top n b bs true ih = ap (λ (s : ℕ). size_after top s bs) (with_digit_cut top n b) ∙ ih
size_step top n b bs false ih = refl

size_run : (top n : ℕ) (bs : List ℕ) → size_after top (min n top) bs ≡ cond (all_ascii_digits bs) (Some (min (value_after n bs) top)) None
size_run top n [] = refl
size_run top n (b ∷ bs) = size_step top n b bs (is_ascii_digit b) (size_run top (n * 10 + (b - 48)) bs)

cut_by : (top v : ℕ) (t : Bool) → cond t (Some (min v top)) None ≡ option_map (λ n. min n top) (cond t (Some v) None)
cut_by top v true = refl
cut_by top v false = refl

pub size_is : (top : ℕ) (ds : List ℕ) → size_of top ds ≡ option_map (λ n. min n top) (natural_of ds)
size_is top [] = refl
size_is top (b ∷ bs) =
    ap (λ (s : ℕ). size_after top s (b ∷ bs)) (let e : 0 ≡ min 0 top = omega arith in e)
    ∙ size_run top 0 (b ∷ bs)
    ∙ cut_by top (value_after 0 (b ∷ bs)) (all_ascii_digits (b ∷ bs))

-- a number below its first end is below its second
pub short_is_whole : (o : Option ℕ) (low high size : ℕ) → low ≤ high → option_map (λ n. min n low) o ≡ Some size → size < low → Some size ≡ option_map (λ n. min n high) o
short_is_whole None low high size h e s = absurd cc
short_is_whole (Some n) low high size h e s = let same : min n low ≡ size = cc in ap Some (omega arith)

pub no_number : (o : Option ℕ) (low high : ℕ) → option_map (λ n. min n low) o ≡ None → None ≡ option_map (λ n. min n high) o
no_number None low high e = refl
no_number (Some n) low high e = absurd cc

-- ---- fields

abbrev added : Numbers → List (Option ℤ) → Numbers
added numbers zs = fold with_integer numbers (map (λ (z : Option ℤ). option_map integer_of z) zs)

nothing_added : (zs : List (Option ℤ)) → added Other zs ≡ Other
nothing_added [] = refl
nothing_added (None ∷ zs) = nothing_added zs
nothing_added (Some z ∷ zs) = nothing_added zs

added_are : (zs : List (Option ℤ)) → added Zero zs ≡ numbers_in zs
added_are [] = refl
added_are (None ∷ zs) = nothing_added zs
added_are (Some a ∷ []) = refl
added_are (Some a ∷ None ∷ zs) = nothing_added zs
added_are (Some a ∷ Some b ∷ []) = refl
added_are (Some a ∷ Some b ∷ None ∷ zs) = nothing_added zs
added_are (Some a ∷ Some b ∷ Some c ∷ []) = refl
added_are (Some a ∷ Some b ∷ Some c ∷ None ∷ zs) = nothing_added zs
added_are (Some a ∷ Some b ∷ Some c ∷ Some d ∷ zs) = nothing_added zs

numbers_by : (fs : List (List ℕ)) (numbers : Numbers) → fold with_integer numbers (map (λ (f : List ℕ). option_map integer_of (number_of f)) fs) ≡ added numbers (map number_of fs)
numbers_by [] numbers = refl
numbers_by (f ∷ fs) numbers = numbers_by fs (with_integer numbers (option_map integer_of (number_of f)))

pub numbers_are : (fs : List (List ℕ)) → fold with_integer Zero (map (λ (f : List ℕ). option_map integer_of (number_of f)) fs) ≡ numbers_in (map number_of fs)
numbers_are fs = numbers_by fs Zero ∙ added_are (map number_of fs)

-- ---- flags

pub all_counted : (size nodes counter : ℕ) → size ≤ counter → nodes ≤ counter → (nodes ≤ size → counter ≡ size) → (size ≤ nodes → counter ≤ nodes) → counter - size ≡ nodes - size
all_counted size nodes counter low high none within =
    elim (cases_lt size nodes) [
      | inl h ↦ let top = within (omega arith) in omega arith
      | inr h ↦ let same = none h in omega arith
    ]

pub one_more_absent : (xs : List Bool) (k n : ℕ) → k ≤ n → (xs ++ replicate (n - k) false) ++ false ∷ [] ≡ xs ++ replicate (n + 1 - k) false
one_more_absent xs k n h =
    append_assoc xs (replicate (n - k) false) (false ∷ [])
    ∙ ap (λ (ys : List Bool). xs ++ ys) (replicate_more (n - k) false)
    ∙ ap (λ (m : ℕ). xs ++ replicate m false) (omega arith)
