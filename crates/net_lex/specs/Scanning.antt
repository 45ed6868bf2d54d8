-- The result of each step of the scanner (AMPL book, section A.1, for the forms).
use Rattle.std.specs.Prelude.{◌≡◌, ℕ, ◌+◌, ◌<◌, ◌⊎◌, List, ◌++◌, length, None, Result, Ok, Err, ℤ}
use Rattle.std.specs.Str.{IsUtf8}
use Rattle.net_base.specs.declared.error_code.ErrorCode.{ErrorCode}
use Rattle.net_base.specs.declared.error_code.ErrorCode.TheVariants.{NotWhole, NumeralTooLarge}
use Rattle.net_lex.specs.declared.gap.Place.TheVariants.{Between}
use Rattle.net_base.specs.declared.diagnostic.Language.{Language}
use Rattle.net_lex.specs.declared.whole.NumFault.TheVariants as num
use Rattle.net_base.specs.declared.diagnostic.Span.{Span}
use Rattle.net_lex.specs.declared.scan.WordKind.{WordKind}
use Rattle.net_lex.specs.declared.token.Kind.{Kind}
use Rattle.net_lex.specs.declared.token.Kind.TheVariants.{Num}
use Rattle.net_lex.specs.declared.token.Token.{Token}
use Rattle.net_lex.specs.Bytes.{first, second}
use Rattle.net_lex.specs.GapFront.{place_after}
use Rattle.net_lex.specs.Numerals.{IsValue, IsNumFault}
use Rattle.net_lex.specs.Tokens.{Allows}
use Rattle.net_lex.specs.Reading.{IsLongest, IsSound}
use Rattle.net_lex.specs.Limits.{limits}
use Rattle.net_lex.specs.Faults.{EndsWhole, IsErrorCode, IsSoundNext}

-- the kind alone
abbrev pub kind_in : Result WordKind ErrorCode → Result Kind ErrorCode
kind_in (Ok found) = Ok found.kind
kind_in (Err error_code) = Err error_code

-- the text begins with neither a blank nor a comment
abbrev pub BeginsNoGap : List ℕ → Type 0
BeginsNoGap text = place_after Between (first text) (second text) ≡ None

-- the kind of a numeral, the error in its value, or the result for a word that is not a numeral
abbrev pub IsNumeralKind : List ℕ → Result Kind ErrorCode → Result Kind ErrorCode → Type 0
IsNumeralKind word otherwise found =
    ((found ≡ Ok Num) × ((v : ℤ) × IsValue limits.value word v))
    ⊎ ((found ≡ Err NotWhole) × IsNumFault limits.value word num.NotWhole)
    ⊎ ((found ≡ Err NumeralTooLarge) × IsNumFault limits.value word num.TooLarge)
    ⊎ ((found ≡ otherwise) × IsNumFault limits.value word num.NotNumeral)

-- the kind of a word, with a valid value if it is a numeral, or the error in the numeral
abbrev pub IsKindOf : Language → List ℕ → Result Kind ErrorCode → Type 0
IsKindOf language word (Ok kind) = Allows language kind word × (kind ≡ Num → (v : ℤ) × IsValue limits.value word v)
IsKindOf language word (Err error_code) =
    Allows language Num word
    × ((error_code ≡ NotWhole) × IsNumFault limits.value word num.NotWhole ⊎ (error_code ≡ NumeralTooLarge) × IsNumFault limits.value word num.TooLarge)

-- the token is at the beginning of the text, which continues after it
pub record IsTokenAt (language : Language) (at : ℕ) (text : List ℕ) (token : Token) (after : List ℕ) : Type 0 where
  pub some : 0 < length token.text
  pub joined : text ≡ token.text ++ after
  pub span : token.span ≡ record { start = at; end = at + length token.text }
  pub longest : IsLongest language token.kind token.text after
  pub whole : EndsWhole token.kind token.text after
  pub sound : IsSound limits.token limits.value token.kind token.text
  pub text_after : IsUtf8 after

abbrev pub IsErrorCodeAt : Language → ℕ → List ℕ → ErrorCode → Span → Type 0
IsErrorCodeAt language at text error_code span = (from : ℕ) × (to : ℕ) × IsErrorCode limits language text error_code from to × (span ≡ record { start = at + from; end = at + to })

-- the next token, after blanks and comments
abbrev pub IsStep : Language → ℕ → List ℕ → Token → List ℕ → Type 0
IsStep language at rest token after = (gap : List ℕ) × IsSoundNext limits language at rest token gap after × (length after < length rest) × IsUtf8 after
