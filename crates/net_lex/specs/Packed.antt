-- Tokens that are stored as positions in a text.
use Rattle.std.specs.Prelude.{◌≡◌, ℕ, ◌+◌, List, pos, slice_range}
use Rattle.std.specs.Str.{IsCharBoundary}
use Rattle.net_lex.specs.declared.token.Token.{Token}
use Rattle.net_lex.specs.declared.words.PackedToken.{PackedToken}
use Rattle.net_lex.specs.Limits.{limits}
use Rattle.net_lex.specs.Numerals.{IsValue}

-- the token at this position in a text
abbrev pub unpacked : (text : List ℕ) → PackedToken → Token
unpacked text p = record {
  kind = p.kind;
  text = slice_range text p.start (p.start + p.len);
  span = record { start = p.start; end = p.start + p.len };
}

-- the code of the value of a numeral: the value plus 1, or 0 for any text
abbrev pub IsCodeOf : (text : List ℕ) → ℕ → Type 0
IsCodeOf text code = (n : ℕ) → code ≡ 1 + n → IsValue limits.value text (pos n)

-- the token begins and ends between characters of the text, and has the value of its code
pub record IsIn (text : List ℕ) (p : PackedToken) : Type 0 where
  pub from : IsCharBoundary text p.start
  pub to : IsCharBoundary text (p.start + p.len)
  pub value : IsCodeOf (unpacked text p).text p.value_code
