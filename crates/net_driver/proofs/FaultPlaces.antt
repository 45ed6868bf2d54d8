-- The first fault of two texts lies in its text.
use Rattle.std.specs.Prelude.{◌≡◌, ℕ, Bool, true, false, List, length, Option, Result, Ok, Err}
use Rattle.std.proofs.Common.{refl, sym, subst}
use Rattle.net_base.specs.declared.diagnostic.Detail.TheVariants.{Nothing}
use Rattle.net_base.specs.declared.diagnostic.Diagnostic.{Diagnostic}
use Rattle.net_base.specs.declared.diagnostic.Fault.{Fault}
use Rattle.net_base.specs.declared.diagnostic.Fault.TheVariants.{OutOfMemory, At}
use Rattle.net_base.specs.declared.diagnostic.Language.{Language}
use Rattle.net_base.specs.declared.diagnostic.Language.TheVariants.{Model, Data}
use Rattle.net_base.specs.declared.diagnostic.Span.{Span}
use Rattle.net_base.specs.Outcomes.{Outcome}
use Rattle.net_base.specs.ErrorCodes.{says_no_network}
use Rattle.net_base.specs.Places.{IsSpanIn, IsInFiles, Places, Finds, region}
use Rattle.net_lex.proofs.Rising.{tokens_rise, first_fault_lies}
use Rattle.net_tree.specs.Tree.{Declaration}
use Rattle.net_tree.specs.Standing.{ModelHasSpans}
use Rattle.net_tree.proofs.ModelsStand.{model_stands}
use Rattle.net_driver.proofs.ModelPlaces.{meant_lies}
use Rattle.net_data.specs.declared.statement.Tables.{Tables}
use Rattle.net_data.specs.Standing.{StatementsHaveSpans}
use Rattle.net_data.proofs.Standing.{rising_stand, mean_stand, stop_lies}
use Rattle.net_bind.proofs.WorldFaults.{finds_world}
use Rattle.net_bind.specs.Binding as binding
use Rattle.net_expr.specs.Worlds.{Name}
use Rattle.net_inst.specs.Instances.{network}
use Rattle.net_inst.proofs.NetworkFaults.{finds_network}
use Rattle.net_driver.specs.FirstFaults as faults
use Rattle.net_driver.specs.FirstFaults.{MayBeModel, IsModelFault, IsDataFault, IsNetworkFault, IsFirstFault, IsStop}
use Rattle.net_driver.specs.Reading.{IsModel, IsData}
use Rattle.net_driver.specs.Reporting.{text_of, IsSpanThere}
use Rattle.net_driver.proofs.Stops.{may_be}

model_in : (m d : List ℕ) (f : Diagnostic) → f.text ≡ Model → IsSpanIn (length m) f.at → IsSpanIn (length (text_of m d f.text)) f.at
model_in m d f is h = subst (λ (t : Language). IsSpanIn (length (text_of m d t)) f.at) (sym is) h

model_lies : (m d : List ℕ) (f : Diagnostic) → IsModelFault m f → IsSpanIn (length (text_of m d f.text)) f.at
model_lies m d _ (faults.IsModelFault.token error_code at first) = first_fault_lies Model m error_code at first
model_lies m d f (faults.grammar tokens _ read is) = let (text, lies) = meant_lies (length m) tokens f (tokens_rise Model m tokens read) is in model_in m d f text lies

data_lies : (m d : List ℕ) (f : Diagnostic) → IsDataFault d f → IsSpanIn (length (text_of m d f.text)) f.at
data_lies m d _ (faults.IsDataFault.token error_code at first) = first_fault_lies Data d error_code at first
data_lies m d _ (faults.statement tokens s read is) = stop_lies (length d) tokens s (rising_stand (length d) 0 tokens (tokens_rise Data d tokens read)) is

-- of a diagnostic at one of the places in the two texts
found_lies : (m d : List ℕ) (f : Diagnostic) → IsInFiles (length m) (length d) (region (says_no_network f.error_code) f.text) f.at → IsSpanIn (length (text_of m d f.text)) f.at
found_lies m d f h = go (says_no_network f.error_code) f.text f.at h
  where
    go : (b : Bool) (t : Language) (at : Span) → IsInFiles (length m) (length d) (region b t) at → IsSpanIn (length (text_of m d t)) at
    go false Model at k = k
    go false Data at k = k
    go true Model at k = k
    go true Data at k = k

rejected_lies : {A : Type 0} (P : Places) (o : Outcome A) (f : Diagnostic) → Finds P o → o ≡ Err f → P (region (says_no_network f.error_code) f.text) f.at
rejected_lies P o f h is = subst (Finds P) is h

pub declarations_lie : (m : List ℕ) (ds : List Declaration) → IsModel m ds → ModelHasSpans (IsSpanIn (length m)) ds
declarations_lie m ds is = model_stands (length m) ds (rw is.means.printed (tokens_rise Model m is.tokens is.read))

pub statements_lie : (d : List ℕ) (x : Tables) → IsData d x → StatementsHaveSpans (IsSpanIn (length d)) x.statements
statements_lie d x is = mean_stand (IsSpanIn (length d)) is.tokens x is.written (rising_stand (length d) 0 is.tokens (tokens_rise Data d is.tokens is.read))

network_lies : (wanted : Option Name) (m d : List ℕ) (ds : List Declaration) (x : Tables) (f : Diagnostic) → IsModel m ds → IsData d x → IsNetworkFault wanted ds x f
    → IsSpanIn (length (text_of m d f.text)) f.at
network_lies wanted m d ds x f is are (faults.unbound _ rejected) =
    found_lies m d f (rejected_lies (IsInFiles (length m) (length d)) (binding.world ds x.statements) f
    (finds_world (IsInFiles (length m) (length d)) (λ at k. k) ds x.statements (declarations_lie m ds is).1 (statements_lie d x are)) rejected)
network_lies wanted m d ds x f is are (faults.unbuilt w _ bound rejected) =
    found_lies m d f (rejected_lies (IsInFiles (length m) (length d)) (network wanted w ds) f (finds_network (IsInFiles (length m) (length d)) ⊥ (λ f at k. k) wanted w ds (declarations_lie m ds is) (λ q. absurd q) (λ q. absurd q)) rejected)

pub fault_lies : (wanted : Option Name) (m d : List ℕ) (f : Diagnostic) → IsFirstFault wanted m d f → IsSpanIn (length (text_of m d f.text)) f.at
fault_lies wanted m d f (faults.model _ is) = model_lies m d f is
fault_lies wanted m d f (faults.statements ds _ is fault) = data_lies m d f fault
fault_lies wanted m d f (faults.both ds x _ is are fault) = network_lies wanted m d ds x f is are fault

pub stop_lies_there : (wanted : Option Name) (m d : List ℕ) (f : Fault) → IsStop wanted m d f → IsSpanThere m d f
stop_lies_there wanted m d OutOfMemory h = tt
stop_lies_there wanted m d (At f) h = fault_lies wanted m d f h

-- a fault that tells something beside its place is none of a model text's bytes
pub detail_may : (wanted : Option Name) (m d : List ℕ) (f : Diagnostic) → IsFirstFault wanted m d f → (f.detail ≡ Nothing → ⊥) → MayBeModel m
detail_may wanted m d _ (faults.model _ (faults.IsModelFault.token error_code at first)) some = absurd (some refl)
detail_may wanted m d f (faults.model _ (faults.grammar tokens _ read is)) some = may_be m tokens read
detail_may wanted m d f (faults.statements ds _ is fault) some = may_be m is.tokens is.read
detail_may wanted m d f (faults.both ds x _ is are fault) some = may_be m is.tokens is.read
