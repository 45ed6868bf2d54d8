-- Models without name errors.
use Rattle.std.specs.Prelude.{◌≡◌, List, [], Option, None, Some, Result, Ok, Err}
use Rattle.net_lex.specs.declared.token.Token.{Token}
use Rattle.net_tree.specs.declared.declaration.Model.{Model}
use Rattle.net_tree.specs.Tree.{Declaration}
use Rattle.net_tree.specs.View as view
use Rattle.net_base.specs.declared.error_code.ErrorCode.{ErrorCode}
use Rattle.net_names.specs.Reported as names
use Rattle.net_names.specs.Reported.{diagnostic_of}
use Rattle.net_names.specs.Names.{names_fault}
use Rattle.net_base.specs.declared.diagnostic.Diagnostic.{Diagnostic}
use Rattle.net_base.specs.declared.diagnostic.Fault.{Fault}
use Rattle.net_base.specs.declared.diagnostic.Fault.TheVariants as faults
use Rattle.net_model.specs.Reading.{Tokens, Read}
use Rattle.net_model.specs.Faults.{reported}
use Rattle.net_model.specs.Declarations.{model_at, nesting_limit}
use Rattle.net_model.specs.Meaning.{Means, IsRejected}

-- the declarations, or the first name error
abbrev pub unless_fault : List Declaration → Option names.Fault → Result (List Declaration) Fault
unless_fault ds None = Ok ds
unless_fault ds (Some f) = Err (faults.At (diagnostic_of f))

-- first the syntax error, then the name error
abbrev pub meant_by : Tokens → Read (List Declaration × Unit {0}) → Result (List Declaration) Fault
meant_by ts (Ok r) = unless_fault r.0.0 (names_fault [] r.0.0)
meant_by ts (Err s) = Err (reported s ts)

-- the model that the tokens are, or their first error
abbrev pub meant : Tokens → Result (List Declaration) Fault
meant ts = meant_by ts (model_at nesting_limit ts)

-- the result is the model, unless memory ran out
abbrev pub Parses : Result Model Fault → Result (List Declaration) Fault → Type 0
Parses (Ok m) w = w ≡ Ok (view.model m)
Parses (Err faults.OutOfMemory) w = Unit {0}
Parses (Err (faults.At f)) w = w ≡ Err (faults.At f)

-- why a model is rejected: a syntax error at this span, or the first name error of a well-formed
-- model
pub data IsFault (tokens : Tokens) : Fault → Type 0 where
  of_grammar : (fault : Fault) → IsRejected tokens fault → IsFault tokens fault
  of_names : (ds : List Declaration) (d : ErrorCode) (t : Token) → Means tokens ds → names_fault [] ds ≡ Some (d, t) → IsFault tokens (faults.At (diagnostic_of (d, t)))

-- the tokens are a model whose names are valid, or they have a first error
pub data Decided (tokens : Tokens) : Type 0 where
  model : (ds : List Declaration) → Means tokens ds → meant tokens ≡ Ok ds → Decided tokens
  rejected : (diagnostic : Diagnostic) → meant tokens ≡ Err (faults.At diagnostic) → Decided tokens
