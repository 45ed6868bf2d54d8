-- Which tokens a text consists of (AMPL book, section A.1), as a condition on the complete list.
use Rattle.std.specs.Prelude.{◌≡◌, ℕ, ◌+◌, ◌≤◌, false, ◌||◌, List, [], ◌∷◌, ◌++◌, length, slice_range, ℤ}
use Rattle.std.specs.List.{AllByRecursion}
use Rattle.net_base.specs.declared.diagnostic.Language.{Language}
use Rattle.net_lex.specs.declared.token.Kind.{Kind}
use Rattle.net_lex.specs.declared.token.Kind.TheVariants.{Num}
use Rattle.net_lex.specs.declared.token.Token.{Token}
use Rattle.net_lex.specs.Characters.{begins_line_comment, begins_comment}
use Rattle.net_lex.specs.Gaps.{IsGap, IsLastGap}
use Rattle.net_lex.specs.Numerals.{IsValue}
use Rattle.net_lex.specs.Tokens.{Allows}

-- the text is of this kind, and no kind allows a longer token at this position
pub record IsLongest (language : Language) (kind : Kind) (text after : List ℕ) : Type 0 where
  pub allowed : Allows language kind text
  pub longest : (other : Kind) (more rest : List ℕ) → text ++ after ≡ more ++ rest → Allows language other more → length more ≤ length text

-- no comment starts at the beginning of the text
abbrev pub BeginsNoComment : List ℕ → Type 0
BeginsNoComment text = (begins_line_comment text || begins_comment text) ≡ false

-- From the byte `at` on, after blanks and comments, the token's text is at the token's span; no
-- comment starts there, and no longer token is possible there.
pub record IsNext (language : Language) (at : ℕ) (rest : List ℕ) (token : Token) (gap after : List ℕ) : Type 0 where
  pub joined : rest ≡ gap ++ (token.text ++ after)
  pub blank : IsGap gap
  pub start : token.span.start ≡ at + length gap
  pub end : token.span.end ≡ at + length gap + length token.text
  pub no_comment : BeginsNoComment (token.text ++ after)
  pub longest : IsLongest language token.kind token.text after

-- a relation between a token, the rest of the text from it on, the gap before it and the text after
-- it
abbrev pub Standing : Type 1
Standing = ℕ → List ℕ → Token → List ℕ → List ℕ → Type 0

-- the tokens follow one another from the byte `at` on, and Ends holds after them
abbrev pub StandIn : Standing → (ℕ → List ℕ → Type 0) → ℕ → List ℕ → List Token → Type 0
StandIn Stands Ends at rest [] = Ends at rest
StandIn Stands Ends at rest (token ∷ tokens) = (gap : List ℕ) × (after : List ℕ) × Stands at rest token gap after × StandIn Stands Ends token.span.end after tokens

abbrev pub EndsInGap : ℕ → List ℕ → Type 0
EndsInGap at rest = IsLastGap rest

-- the text consists of the tokens, blanks and comments
abbrev pub Reads : Language → List ℕ → List Token → Type 0
Reads language text tokens = StandIn (IsNext language) EndsInGap 0 text tokens

-- a token is within the length limit, and if it is a numeral its value is an integer within the
-- value limit
pub record IsSound (length_limit value_limit : ℕ) (kind : Kind) (text : List ℕ) : Type 0 where
  pub short : length text ≤ length_limit
  pub value : kind ≡ Num → (v : ℤ) × IsValue value_limit text v

abbrev pub AreSound : ℕ → ℕ → List Token → Type 0
AreSound length_limit value_limit tokens = AllByRecursion (λ token. IsSound length_limit value_limit token.kind token.text) tokens

-- the token's text is the slice of the text at its span
pub record IsSliceOf (text : List ℕ) (token : Token) : Type 0 where
  pub order : token.span.start ≤ token.span.end
  pub within : token.span.end ≤ length text
  pub slice : token.text ≡ slice_range text token.span.start token.span.end
