-- A model that tokens are has names that are as they should be, and tokens that mean such a model are that model.
use Rattle.std.specs.Prelude.{◌≡◌, List, [], Option, None, Some, Result, Ok, Err}
use Rattle.std.proofs.Common.{refl, ap, ◌∙◌, subst}
use Rattle.net_tree.specs.Tree.{Declaration}
use Rattle.net_names.specs.Names.{names_fault, IsWellNamed}
use Rattle.net_names.specs.Reported as names
use Rattle.net_names.specs.Reported.{ReportsOf}
use Rattle.net_base.specs.declared.diagnostic.Fault.{Fault}
use Rattle.net_base.specs.declared.diagnostic.Fault.TheVariants as faults
use Rattle.net_model.specs.Declarations.{model_at, nesting_limit}
use Rattle.net_model.specs.Meaning.{Means}
use Rattle.net_model.specs.Models.{unless_fault, meant_by, meant, IsFault, of_grammar, of_names}
use Rattle.net_model.specs.Reading.{Tokens, Read}
use Rattle.net_model.proofs.ModelLaws.{model-complete}

abbrev declarations_of : Result (List Declaration) Fault → List Declaration
declarations_of (Ok ds) = ds
declarations_of (Err e) = []

named : (es ds : List Declaration) (o : Option names.Fault) → names_fault [] es ≡ o → unless_fault es o ≡ Ok ds → IsWellNamed ds
named es ds None f h = subst (λ l. names_fault [] l ≡ None) (ap declarations_of h) f
named es ds (Some x) f h = cc

read_named : (ts : Tokens) (r : Read (List Declaration × Unit {0})) (ds : List Declaration) → meant_by ts r ≡ Ok ds → IsWellNamed ds
read_named ts (Ok r) ds h = named r.0.0 ds (names_fault [] r.0.0) refl h
read_named ts (Err s) ds h = cc

pub meant_well_named : (ts : Tokens) (ds : List Declaration) → meant ts ≡ Ok ds → IsWellNamed ds
meant_well_named ts ds h = read_named ts (model_at nesting_limit ts) ds h

-- with names that are as they should be, what is meant is what is read
pub named_meant : (ts : Tokens) (ds : List Declaration) → Means ts ds → IsWellNamed ds → meant ts ≡ Ok ds
named_meant ts ds means well =
    let read : model_at nesting_limit ts ≡ Ok ((ds, tt), []) = subst (λ us. model_at nesting_limit us ≡ Ok ((ds, tt), [])) means.printed (model-complete nesting_limit ds means.level means.shallow) in
    ap (meant_by ts) read ∙ ap (unless_fault ds) well

-- what is told of the names is told of a model that the tokens mean
pub named_fault : (ts : Tokens) (ds : List Declaration) (f : Fault) → Means ts ds → ReportsOf (names_fault [] ds) (Err f) → IsFault ts f
named_fault ts ds faults.OutOfMemory means reported = of_grammar faults.OutOfMemory tt
named_fault ts ds (faults.At g) means (x, is, same) = rw same (of_names ds x.0 x.1 means is)
