-- The token at the beginning of a text that starts with neither a blank nor a comment, byte by byte
-- (AMPL book, section A.1).
use Rattle.std.specs.Prelude.{ℕ, ◌+◌, ◌-◌, ◌<◌, ◌≤◌, ◌==◌, Bool, true, false, List, [], ◌∷◌, length, take, drop, if◌then◌else◌, Option, Some, None, is_some, unwrap_or, Result, Ok, Err}
use Rattle.std.specs.List.{prefix_len, take_while}
use Rattle.std.specs.Str.{chars, encode_utf8_all}
use Rattle.net_base.specs.declared.error_code.ErrorCode.TheVariants.{BadCharacter, OpenString}
use Rattle.net_base.specs.declared.diagnostic.Language.{Language}
use Rattle.net_base.specs.declared.diagnostic.Language.TheVariants.{Model, Data}
use Rattle.net_lex.specs.declared.shape.Shape.{Shape}
use Rattle.net_lex.specs.declared.shape.Shape.TheVariants.{Word, Numeral, Quoted, Mark}
use Rattle.net_lex.specs.declared.shape.BadFront.{BadFront}
use Rattle.net_lex.specs.declared.string.StringEnd.{StringEnd}
use Rattle.net_lex.specs.declared.string.StringEnd.TheVariants.{Closed, Control, Open}
use Rattle.net_lex.specs.Bytes.{first}
use Rattle.net_lex.specs.Characters.{is_quote, is_control, starts_name, continues_name, is_word_char}
use Rattle.net_lex.specs.Numerals.{Parts}
use Rattle.net_lex.specs.NumeralFront.{numeral_at}
use Rattle.net_lex.specs.Words.{model_mark_len, data_mark_len}

-- the state inside a string after the byte c: whether c is a delimiter that another must follow;
-- `None` if the string stops before c
abbrev pub delimited_after : (delimiter : ℕ) → (delimited : Bool) → ℕ → Option Bool
delimited_after q delimited c =
    if delimited then (if c == q then Some false else None)
    else if c == q then Some true
    else if is_control c then None
    else Some false

-- The end of a string, from its inside on; `delimited` means that the previous byte was a
-- delimiter.
unfoldable pub string_end : (delimiter : ℕ) → (delimited : Bool) → (at : ℕ) → List ℕ → StringEnd
string_end q delimited at [] = if delimited then Closed at else Open
string_end q delimited at (c ∷ cs) =
    if is_some (delimited_after q delimited c) then string_end q (unwrap_or (delimited_after q delimited c) false) (at + 1) cs
    else if delimited then Closed at
    else Control at

-- the end is within the text
abbrev pub IsEndWithin : ℕ → StringEnd → Type 0
IsEndWithin n (Closed at) = at ≤ n
IsEndWithin n (Control at) = at < n
IsEndWithin n Open = Unit {0}

-- a shape and its length, or an error and its range from here
abbrev pub Front : Type 0
Front = Result (Shape × ℕ) BadFront

abbrev pub quoted_front : StringEnd → Front
quoted_front (Closed n) = Ok (Quoted, n + 1)
quoted_front (Control n) = Err (record { error_code = BadCharacter; from = n + 1; to = n + 2 })
quoted_front Open = Err (record { error_code = OpenString; from = 0; to = 1 })

-- the string at the beginning of the text
abbrev pub string_at : List ℕ → Front
string_at text = quoted_front (string_end (first text) false 0 (drop 1 text))

-- the length in bytes of the first character
unfoldable pub char_len : List ℕ → ℕ
char_len text = length (encode_utf8_all (take 1 (chars text)))

-- the punctuation token of this length, or a character with which no token begins
abbrev pub mark_front : List ℕ → ℕ → Front
mark_front text n = if n == 0 then Err (record { error_code = BadCharacter; from = 0; to = char_len text }) else Ok (Mark, n)

-- a numeral, which extends to the rest; else a string or punctuation
abbrev pub unnamed_front : List ℕ → Option (Parts × List ℕ) → Front
unnamed_front text (Some x) = Ok (Numeral, length text - length x.1)
unnamed_front text None = if is_quote (first text) then string_at text else mark_front text (model_mark_len text)

unfoldable pub model_front : List ℕ → Front
model_front text =
    if starts_name (first text) then Ok (Word, prefix_len continues_name text)
    else unnamed_front text (numeral_at text)

-- the length in bytes of the bare data word at the beginning of the text
unfoldable pub word_len : List ℕ → ℕ
word_len text = length (encode_utf8_all (take_while is_word_char (chars text)))

unfoldable pub data_front : List ℕ → Front
data_front text =
    if is_quote (first text) then string_at text
    else if word_len text == 0 then mark_front text (data_mark_len text)
    else Ok (Word, word_len text)

unfoldable pub front : Language → List ℕ → Front
front Model text = model_front text
front Data text = data_front text
