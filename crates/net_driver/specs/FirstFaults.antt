-- The first error of a model with its data, in this order: tokens, grammar and names of the model;
-- tokens and statements of the data; evaluation of both; the network.
use Rattle.std.specs.Prelude.{◌≡◌, ◌≤◌, ℕ, List, Option, Ok, Err, length, ◌⊎◌}
use Rattle.std.specs.Str.{IsUtf8}
use Rattle.net_base.specs.declared.error_code.ErrorCode.{ErrorCode}
use Rattle.net_base.specs.declared.diagnostic.Language.{Language}
use Rattle.net_base.specs.declared.diagnostic.Language.TheVariants as languages
use Rattle.net_base.specs.declared.diagnostic.Span.{Span}
use Rattle.net_lex.specs.declared.token.Token.{Token}
use Rattle.net_lex.specs.Lexing as lex
use Rattle.net_lex.specs.Lexing.{AreTokensOf}
use Rattle.net_lex.specs.Limits.{text_limit}
use Rattle.net_tree.specs.Tree.{Declaration}
use Rattle.net_model.specs.Models.{meant}
use Rattle.net_data.specs.declared.data_parser.ParseError.{ParseError as DataStop}
use Rattle.net_data.specs.declared.statement.Tables.{Tables}
use Rattle.net_data.specs.Reading as data_reading
use Rattle.net_base.specs.declared.diagnostic.Diagnostic.{Diagnostic}
use Rattle.net_bind.specs.Binding as binding
use Rattle.net_expr.specs.Worlds.{Name, World}
use Rattle.net_inst.specs.Instances.{network}
use Rattle.net_base.specs.declared.diagnostic.Fault.{Fault}
use Rattle.net_base.specs.declared.diagnostic.Fault.TheVariants.{OutOfMemory, At}
use Rattle.net_base.specs.Outcomes.{bare}
use Rattle.net_driver.specs.Reading.{IsModel, IsData}

-- the text has tokens, or a first error among them; `first_error` of net_lex shows which
abbrev pub IsLexed : Language → List ℕ → Type 0
IsLexed language text = ((tokens : List Token) × AreTokensOf language text tokens) ⊎ ((d : ErrorCode) × (at : Span) × lex.IsFirstFault language text d at)

pub data IsModelFault (text : List ℕ) : Diagnostic → Type 0 where
  token : (d : ErrorCode) (at : Span) → lex.IsFirstFault languages.Model text d at → IsModelFault text (bare languages.Model d at)
  grammar : (tokens : List Token) (diagnostic : Diagnostic) → AreTokensOf languages.Model text tokens
      → meant tokens ≡ Err (At diagnostic) → IsModelFault text diagnostic

-- the span at which parsing a data statement stops
abbrev pub place_of : List Token → DataStop → Span
place_of tokens s = data_reading.span_or_end (data_reading.end_of tokens) s.at

pub data IsDataFault (text : List ℕ) : Diagnostic → Type 0 where
  token : (d : ErrorCode) (at : Span) → lex.IsFirstFault languages.Data text d at → IsDataFault text (bare languages.Data d at)
  statement : (tokens : List Token) (s : DataStop) → AreTokensOf languages.Data text tokens
      → data_reading.tables tokens ≡ Err s → IsDataFault text (bare languages.Data s.error_code (place_of tokens s))

-- errors of evaluating declarations with statements
pub data IsNetworkFault (wanted : Option Name) (ds : List Declaration) (tables : Tables) : Diagnostic → Type 0 where
  unbound : (r : Diagnostic) → binding.world ds tables.statements ≡ Err r → IsNetworkFault wanted ds tables r
  unbuilt : (w : World) (r : Diagnostic) → binding.world ds tables.statements ≡ Ok w → network wanted w ds ≡ Err r → IsNetworkFault wanted ds tables r

pub data IsFirstFault (wanted : Option Name) (model_text data_text : List ℕ) : Diagnostic → Type 0 where
  model : (diagnostic : Diagnostic) → IsModelFault model_text diagnostic → IsFirstFault wanted model_text data_text diagnostic
  statements : (ds : List Declaration) (diagnostic : Diagnostic) → IsModel model_text ds → IsDataFault data_text diagnostic → IsFirstFault wanted model_text data_text diagnostic
  both : (ds : List Declaration) (tables : Tables) (diagnostic : Diagnostic) → IsModel model_text ds → IsData data_text tables → IsNetworkFault wanted ds tables diagnostic
      → IsFirstFault wanted model_text data_text diagnostic

-- a condition for the error `out of memory`: the text is within the limit and UTF-8
pub record MayBeModel (text : List ℕ) : Type 0 where
  pub short : length text ≤ text_limit languages.Model
  pub utf8 : IsUtf8 text

-- the first error of a model, or memory ran out
abbrev pub IsModelStop : List ℕ → Fault → Type 0
IsModelStop text OutOfMemory = MayBeModel text
IsModelStop text (At diagnostic) = IsModelFault text diagnostic

-- the first error of declarations with statements
abbrev pub IsNetworkStop : Option Name → List Declaration → Tables → Fault → Type 0
IsNetworkStop wanted ds tables OutOfMemory = Unit {0}
IsNetworkStop wanted ds tables (At diagnostic) = IsNetworkFault wanted ds tables diagnostic

-- the first error of a model with its data, or memory ran out, which requires that the model is
-- within the limit and UTF-8
abbrev pub IsStop : Option Name → (model_text data_text : List ℕ) → Fault → Type 0
IsStop wanted model_text data_text OutOfMemory = MayBeModel model_text
IsStop wanted model_text data_text (At diagnostic) = IsFirstFault wanted model_text data_text diagnostic
