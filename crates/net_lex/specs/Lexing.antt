-- The result of lexing a model or data file (AMPL book, section A.1): its tokens, or its first
-- error.
use Rattle.std.specs.Prelude.{◌≡◌, ℕ, ◌≤◌, List, length, Result, IfOk, IfErr, MatchResult}
use Rattle.std.specs.List.{AllByRecursion}
use Rattle.std.specs.Str.{IsUtf8}
use Rattle.net_base.specs.declared.error_code.ErrorCode.{ErrorCode}
use Rattle.net_base.specs.declared.diagnostic.Fault.{Fault}
use Rattle.net_base.specs.declared.diagnostic.Fault.TheVariants.{OutOfMemory, At}
use Rattle.net_base.specs.Outcomes.{bare}
use Rattle.net_base.specs.declared.diagnostic.Language.{Language}
use Rattle.net_base.specs.declared.diagnostic.Span.{Span}
use Rattle.net_lex.specs.declared.token.Token.{Token}
use Rattle.net_lex.specs.Limits.{limits, text_limit}
use Rattle.net_lex.specs.Reading.{Reads, AreSound, IsSliceOf}
use Rattle.net_lex.specs.Faults as faults
use Rattle.net_lex.specs.Faults.{BeginsWithToken, HasPlace}

-- The text is within the length limit and UTF-8; it consists of these tokens; each token is within
-- its length limit, and the value of each numeral is an integer within its limit.
pub record AreTokensOf (language : Language) (text : List ℕ) (tokens : List Token) : Type 0 where
  pub short : length text ≤ text_limit language
  pub utf8 : IsUtf8 text
  pub read : Reads language text tokens
  pub sound : AreSound limits.token limits.value tokens

-- the first error of the text
abbrev pub IsFirstFault : Language → List ℕ → ErrorCode → Span → Type 0
IsFirstFault language text error_code span = faults.IsFirstFault limits language (text_limit language) text error_code span

-- the first error of the text, reported with its span alone; or memory ran out, in a text that is
-- within the limit, is UTF-8 and begins with a token
abbrev pub IsRejection : Language → List ℕ → Fault → Type 0
IsRejection language text OutOfMemory = (length text ≤ text_limit language) × IsUtf8 text × BeginsWithToken limits language text
IsRejection language text (At f) = (f ≡ bare language f.error_code f.at) × IsFirstFault language text f.error_code f.at

-- The contract of the lexer.
pub record Lexes {V : Type 0} (items : V → List Token) (language : Language) (text : List ℕ) (answer : Result V Fault) : Type 0 where
  -- the result is the tokens of the text, or its first error
  pub ok : IfOk answer (λ v. AreTokensOf language text (items v))
  pub rejected : IfErr answer (IsRejection language text)
  -- a text that has tokens is rejected only if memory runs out
  pub complete : (tokens : List Token) → AreTokensOf language text tokens → MatchResult answer (λ v. items v ≡ tokens) (λ e. e ≡ OutOfMemory)
  -- each token is the slice of the text at its span, and the span of an error is within the text
  pub place : MatchResult answer (λ v. AllByRecursion (IsSliceOf text) (items v)) (HasPlace text)
