-- What part of an incomplete line determines its meaning (First DIMACS Implementation Challenge,
-- minimum-cost flow), so that the reader can discard the rest.
use Rattle.std.specs.Prelude.{◌≡◌, ℕ, ◌<◌, ◌≤◌, ◌-◌, ◌^◌, ◌==◌, Bool, nat_le, length, if◌then◌else◌, List, [], ◌∷◌, ◌++◌, codes, ℤ, Option, Some, None}
use Rattle.std.specs.Option.{option_map}
use Rattle.std.specs.Fmt.{decimal}
use Rattle.net_dimacs.specs.Limits.{open_field_limit}
use Rattle.net_dimacs.specs.Lines.{is_blank, is_feed, is_text, HasNone}
use Rattle.net_dimacs.specs.Numbers.{cut_statement, cut_number, kind_of}
use Rattle.net_dimacs.specs.Numerals.{size_of}
use Rattle.net_dimacs.specs.Reading.{line_statement}
use Rattle.net_dimacs.specs.declared.problem_line.LineKind.{LineKind}

-- with any continuation, both prefixes give a line with the same meaning
abbrev pub IsSameStatement : List ℕ → List ℕ → Type 0
IsSameStatement front line = (more : List ℕ) → option_map cut_statement (line_statement (front ++ more)) ≡ option_map cut_statement (line_statement (line ++ more))

-- all that the reader uses of a field: the kind of line that it indicates, whether it is `min`, and
-- its saturated number
pub record View : Type 0 where
  pub kind : LineKind
  pub is_min : Bool
  pub number : Option ℤ

abbrev pub view : List ℕ → View
view field = record { kind = kind_of field; is_min = is_text (codes "min") field; number = cut_number field }

-- with any continuation, `short` has the same view as `field`; it is not empty and contains no
-- space, tab or LF
pub record StandsFor (short field : List ℕ) : Type 0 where
  pub alike : (more : List ℕ) → view (short ++ more) ≡ view (field ++ more)
  pub some : 0 < length short
  pub few : length short ≤ open_field_limit
  pub solid : HasNone is_blank short
  pub whole : HasNone is_feed short

-- a sign and a saturated number; or `x`, which is no valid field with any continuation
abbrev pub number_text : ℕ → Option ℕ → List ℕ
number_text sign None = codes "x"
number_text sign (Some size) = sign ∷ decimal size

abbrev pub short_number : ℕ → List ℕ → List ℕ
short_number sign digits = number_text sign (size_of (2 ^ 64 - 1) digits)

-- the first byte of a comment field, or the number of any other field
abbrev pub short_long_field : List ℕ → List ℕ
short_long_field [] = []
short_long_field (b ∷ bs) =
    if b == 99 then codes "c"
    else if b == 43 then short_number 43 bs
    else if b == 45 then short_number 45 bs
    else short_number 43 (b ∷ bs)

-- the stored form of a field
abbrev pub short_field : List ℕ → List ℕ
short_field field = if nat_le (length field) open_field_limit then field else short_long_field field
