-- Lines, fields and numbers of a DIMACS file (First DIMACS Implementation Challenge, minimum-cost
-- flow).
use Rattle.std.specs.Prelude.{◌≡◌, ◌<◌, length, slice_index, ℕ, ◌+◌, ◌-◌, ◌*◌, Bool, true, false, ◌||◌, ◌&&◌, ◌==◌, if◌then◌else◌, List, [], ◌∷◌, ◌++◌, codes, filter, ℤ, pos, neg_ℤ, Option, Some, None}
use Rattle.std.specs.List.{slice_split, AllByRecursion}
use Rattle.std.specs.Option.{option_map}
use Rattle.std.specs.Str.{all_ascii_digits}
use Rattle.net_dimacs.specs.Words.{Word}
use Rattle.net_dimacs.specs.Words as words

-- spaces and tabs separate fields
abbrev pub is_blank : ℕ → Bool
is_blank b = b == 32 || b == 9

abbrev pub is_feed : ℕ → Bool
is_feed b = b == 10

-- no byte satisfies the test
abbrev pub HasNone : (ℕ → Bool) → List ℕ → Type 0
HasNone test bytes = AllByRecursion (λ b. test b ≡ false) bytes

-- the last byte is LF, unless there are no bytes
abbrev pub EndsLine : List ℕ → Type 0
EndsLine bytes = 0 < length bytes → slice_index bytes (length bytes - 1) ≡ 10

abbrev pub has_byte : List ℕ → Bool
has_byte [] = false
has_byte (b ∷ bs) = true

-- the fields of a line: the parts between spaces and tabs
abbrev pub fields_of : List ℕ → List (List ℕ)
fields_of line = filter has_byte (slice_split is_blank line)

-- empty, or begins with a space or a tab
abbrev pub BeginsBlank : List ℕ → Type 0
BeginsBlank [] = Unit {0}
BeginsBlank (b ∷ bs) = is_blank b ≡ true

-- the first field of some bytes, and what follows it
pub record IsFirstField (bytes field after : List ℕ) : Type 0 where
  pub blanks : List ℕ
  pub whole : bytes ≡ blanks ++ (field ++ after)
  pub before : AllByRecursion (λ b. is_blank b ≡ true) blanks
  pub some : 0 < length field
  pub solid : HasNone is_blank field
  pub behind : BeginsBlank after

-- the number n followed by these digits
abbrev pub value_after : ℕ → List ℕ → ℕ
value_after n [] = n
value_after n (d ∷ ds) = value_after (n * 10 + (d - 48)) ds

-- one or more digits
abbrev pub natural_of : List ℕ → Option ℕ
natural_of ds = if has_byte ds && all_ascii_digits ds then Some (value_after 0 ds) else None

-- an optional sign and one or more digits
abbrev pub number_of : List ℕ → Option ℤ
number_of [] = None
number_of (b ∷ bs) =
    if b == 43 then option_map pos (natural_of bs)
    else if b == 45 then option_map (λ n. neg_ℤ (pos n)) (natural_of bs)
    else option_map pos (natural_of (b ∷ bs))

abbrev pub is_text : List ℕ → List ℕ → Bool
is_text [] [] = true
is_text (a ∷ more) (b ∷ bs) = b == a && is_text more bs
is_text [] (b ∷ bs) = false
is_text (a ∷ more) [] = false

abbrev pub begins_with : ℕ → List ℕ → Bool
begins_with c [] = false
begins_with c (b ∷ bs) = b == c

abbrev pub number_or_other : Option ℤ → Word
number_or_other None = words.Other
number_or_other (Some z) = words.Number z

-- the meaning of a field
abbrev pub word_of : List ℕ → Word
word_of field =
    if begins_with 99 field then words.Comment
    else if is_text (codes "p") field then words.Problem
    else if is_text (codes "n") field then words.Node
    else if is_text (codes "a") field then words.Arc
    else if is_text (codes "min") field then words.Min
    else number_or_other (number_of field)
