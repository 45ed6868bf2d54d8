-- Which model the tokens of a text are, and when they are none.
use Rattle.std.specs.Prelude.{◌≡◌, ◌≤◌, ◌<◌, ℕ, suc, Bool, true, false, List, [], ◌∷◌, ◌++◌}
use Rattle.net_base.specs.declared.diagnostic.Span.{Span}
use Rattle.net_lex.specs.declared.token.Token.{Token}
use Rattle.net_tree.specs.declared.role.Role.{Role}
use Rattle.net_tree.specs.declared.role.Role.TheVariants as roles
use Rattle.net_tree.specs.Role.{role_of}
use Rattle.net_tree.specs.Tree.{Declaration}
use Rattle.net_tree.specs.Print.{print}
use Rattle.net_tree.specs.Depth.{model_depth}
use Rattle.net_tree.specs.Declarations.{AreDeclarations}
use Rattle.net_base.specs.declared.error_code.ErrorCode.TheVariants as error_codes
use Rattle.net_base.specs.declared.error_code.ErrorCode.{ErrorCode}
use Rattle.net_base.specs.declared.diagnostic.Fault.{Fault}
use Rattle.net_base.specs.declared.diagnostic.Fault.TheVariants as faults
use Rattle.net_model.specs.Reading.{Tokens}
use Rattle.net_model.specs.Declarations.{nesting_limit}
use Rattle.net_model.specs.Faults.{end_of}

-- the model has these tokens, is well-formed, and is within the nesting limit
pub record Means (tokens : Tokens) (model : List Declaration) : Type 0 where
  pub printed : print model ≡ tokens
  pub level : AreDeclarations model
  pub shallow : model_depth model ≤ nesting_limit

-- whether a token of this role opens a nesting level
abbrev pub opens : Role → Bool
opens roles.Open = true
opens roles.OpenBrace = true
opens roles.OpenSquare = true
opens roles.Sign = true
opens roles.If = true
opens roles.Reduction = true
opens _ = false

-- whether a keyword of this role requires a nesting level: only `(` can follow `not`, and only `{`
-- can follow `sum`, `min` and `max`
abbrev pub announces : Role → Bool
announces roles.Not = true
announces roles.Reduction = true
announces _ = false

-- a well-formed model begins with these tokens
abbrev pub Begins : Tokens → Type 0
Begins tokens = (model : List Declaration) × AreDeclarations model × (rest : Tokens) × (print model ≡ tokens ++ rest)

-- a well-formed model within this nesting limit begins with these tokens
abbrev pub BeginsWithin : ℕ → Tokens → Type 0
BeginsWithin limit tokens = (model : List Declaration) × AreDeclarations model × (model_depth model ≤ limit) × (rest : Tokens) × (print model ≡ tokens ++ rest)

-- These tokens do not exceed the nesting limit: a model within the limit begins with them. Or their
-- last word requires one more nesting level: then a model within the limit begins with the tokens
-- before this word, and a model nested one level deeper begins with all of them.
pub data KeepsLimit (limit : ℕ) (tokens : Tokens) : Type 0 where
  kept : BeginsWithin limit tokens → KeepsLimit limit tokens
  announced : (front : Tokens) (word : Token) → front ++ word ∷ [] ≡ tokens → announces (role_of word) ≡ true
      → BeginsWithin limit front → BeginsWithin (suc limit) tokens → KeepsLimit limit tokens

-- no well-formed model has these tokens
abbrev pub NoModel : Tokens → Type 0
NoModel tokens = (model : List Declaration) → AreDeclarations model → print model ≡ tokens → ⊥

-- each well-formed model with these tokens exceeds the nesting limit
abbrev pub TooDeep : Tokens → Type 0
TooDeep tokens = (model : List Declaration) → AreDeclarations model → print model ≡ tokens → nesting_limit < model_depth model

-- The error is at this position. At a token: a well-formed model begins with the tokens before it,
-- and none begins with the tokens up to and including it. At the end: a well-formed model begins
-- with the tokens, and none consists of them.
pub data WrongAt (tokens : Tokens) (place : Span) : Type 0 where
  at_token : (before : Tokens) (token : Token) (after : Tokens) → before ++ token ∷ after ≡ tokens → token.span ≡ place
      → Begins before → ((others : Tokens) → NoModel (before ++ token ∷ others)) → WrongAt tokens place
  at_end : end_of tokens ≡ place → Begins tokens → NoModel tokens → WrongAt tokens place

-- The token at this position exceeds the nesting limit: the tokens before it are within the limit;
-- a well-formed model begins with the tokens up to and including this one, and each such model
-- exceeds the limit.
pub record DeepAt (tokens : Tokens) (place : Span) : Type 0 where
  pub before : Tokens
  pub token : Token
  pub after : Tokens
  pub text : before ++ token ∷ after ≡ tokens
  pub stands : token.span ≡ place
  pub opens : opens (role_of token) ≡ true
  pub kept : KeepsLimit nesting_limit before
  pub goes_on : Begins (before ++ token ∷ [])
  pub deeper : (others : Tokens) → TooDeep (before ++ token ∷ others)

-- the meaning of a syntax error
abbrev pub IsErrorCodeAt : Tokens → ErrorCode → Span → Type 0
IsErrorCodeAt tokens error_codes.TooDeep place = DeepAt tokens place
IsErrorCodeAt tokens error_code place = WrongAt tokens place

abbrev pub IsRejected : Tokens → Fault → Type 0
IsRejected tokens faults.OutOfMemory = Unit {0}
IsRejected tokens (faults.At f) = IsErrorCodeAt tokens f.error_code f.at
