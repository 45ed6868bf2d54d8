-- If parsing stops at a token, the tokens before it begin valid statements, and no valid statements
-- continue with that token.
use Rattle.std.specs.Prelude.{◌≡◌, List, ◌∷◌, ◌++◌, Some, None, Err}
use Rattle.net_base.specs.declared.diagnostic.Span.{Span}
use Rattle.net_lex.specs.declared.token.Token.{Token}
use Rattle.net_base.specs.declared.error_code.ErrorCode.TheVariants.{DataSyntax}
use Rattle.net_data.specs.declared.statement.Tables.{Tables}
use Rattle.net_data.specs.Meaning.{Mean}
use Rattle.net_data.specs.Reading.{stop, end_of, span_or_end, tables}

-- followed by some tokens, these are valid statements
abbrev pub Begins : List Token → Type 0
Begins tokens = (others : List Token) × (x : Tables) × Mean (tokens ++ others) x

-- a token with this span is among the tokens, and those before it begin valid statements
pub record BeginsBefore (tokens : List Token) (span : Span) : Type 0 where
  pub front : List Token
  pub token : Token
  pub more : List Token
  pub parts : tokens ≡ front ++ token ∷ more
  pub at : token.span ≡ span
  pub begins : Begins front

-- the same, and no valid statements continue with this token, whatever follows
pub record EndsAt (tokens : List Token) (span : Span) : Type 0 where
  pub front : List Token
  pub token : Token
  pub more : List Token
  pub parts : tokens ≡ front ++ token ∷ more
  pub at : token.span ≡ span
  pub begins : Begins front
  pub none : (other : List Token) (x : Tables) → ¬ Mean (front ++ token ∷ other) x

abbrev pub NoneGoOn : Type 0
NoneGoOn = (tokens : List Token) (span : Span) → tables tokens ≡ Err (stop DataSyntax (Some span)) → EndsAt tokens span

-- the tokens begin valid statements, but are not valid by themselves
pub record EndsOpen (tokens : List Token) : Type 0 where
  pub begins : Begins tokens
  pub none : (x : Tables) → ¬ Mean tokens x

abbrev pub AllBegin : Type 0
AllBegin = (tokens : List Token) → tables tokens ≡ Err (stop DataSyntax None) → EndsOpen tokens

-- the error is at this span: at the first token after which no valid statements can continue, or at
-- the end
pub data IsWrong (tokens : List Token) (span : Span) : Type 0 where
  at_token : EndsAt tokens span → IsWrong tokens span
  at_end : span_or_end (end_of tokens) None ≡ span → EndsOpen tokens → IsWrong tokens span
