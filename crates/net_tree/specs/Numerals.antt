-- The values of numerals.
use Rattle.std.specs.Prelude.{◌≡◌, ℕ, ◌+◌, ◌==◌, Bool, List, [], Option, None, Some, Result, Ok, Err, ℤ}
use Rattle.std.specs.List.{AllByRecursion}
use Rattle.net_base.specs.declared.diagnostic.Language.{Language}
use Rattle.net_lex.specs.declared.token.Kind.TheVariants.{Num}
use Rattle.net_lex.specs.declared.token.Token.{Token}
use Rattle.net_lex.specs.declared.whole.NumFault.{NumFault}
use Rattle.net_lex.specs.Bytes.{first, minus, after_sign}
use Rattle.net_lex.specs.Lexing.{AreTokensOf}
use Rattle.net_lex.specs.Limits.{limits}
use Rattle.net_lex.specs.Numerals.{Parts, up, down, signed}
use Rattle.net_lex.specs.NumeralFront.{numeral_at}
use Rattle.net_lex.specs.Significands.{Significand, with_digits, whole_value}
use Rattle.net_tree.specs.declared.role.Role.{Role}
use Rattle.net_tree.specs.declared.role.Role.TheVariants as roles
use Rattle.net_tree.specs.Role.{role_of}

-- the significant digits of a numeral, and the number of zeros after them
abbrev pub significant : Parts → Significand
significant p = with_digits (with_digits (record { digits = 0; zeros = 0 }) p.whole) p.fraction

abbrev pub whole_size : Parts → Result ℕ NumFault
whole_size p = whole_value limits.value (significant p).digits ((significant p).zeros + up p) (down p)

abbrev pub with_sign : Bool → Result ℕ NumFault → Option ℤ
with_sign negative (Ok n) = Some (signed negative n)
with_sign negative (Err why) = None

abbrev pub if_whole : List ℕ → Option (Parts × List ℕ) → Option ℤ
if_whole text (Some (p, [])) = with_sign (first text == minus) (whole_size p)
if_whole text _ = None

-- the value of a numeral, if it is an integer within the limit
unfoldable pub number_in : List ℕ → Option ℤ
number_in text = if_whole text (numeral_at (after_sign text))

-- the value of a token of this role, if it is a numeral
abbrev pub number_as : Role → List ℕ → Option ℤ
number_as roles.Number text = number_in text
number_as _ text = None

unfoldable pub number_of : Token → Option ℤ
number_of t = number_as (role_of t) t.text

-- a numeral has a number
abbrev pub HasNumber : Token → Type 0
HasNumber t = t.kind ≡ Num → (n : ℤ) × (number_of t ≡ Some n)

-- so do all numerals of a text
abbrev pub NumeralsHaveNumbers : Type 0
NumeralsHaveNumbers = (language : Language) (text : List ℕ) (tokens : List Token) → AreTokensOf language text tokens → AllByRecursion HasNumber tokens
