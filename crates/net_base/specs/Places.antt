-- The span of an error.
use Rattle.std.specs.Prelude.{ℕ, ◌≤◌, ⊤, Bool, true, false, Ok, Err}
use Rattle.net_base.specs.declared.diagnostic.Span.{Span}
use Rattle.net_base.specs.declared.diagnostic.Language.{Language}
use Rattle.net_base.specs.declared.diagnostic.Language.TheVariants as languages
use Rattle.net_base.specs.ErrorCodes.{says_no_network}
use Rattle.net_base.specs.Outcomes.{Outcome}

-- a span in a text with this many bytes
pub record IsSpanIn (size : ℕ) (at : Span) : Type 0 where
  pub forward : at.start ≤ at.end
  pub inside : at.end ≤ size

-- the file of an error; the errors that show that there is no network are kept apart (`Refuted`)
pub data Region : Type 0 where
  Model : Region
  Data : Region
  Refuted : Language → Region

abbrev pub region : Bool → Language → Region
region true text = Refuted text
region false languages.Model = Model
region false languages.Data = Data

-- the possible spans in each region
abbrev pub Places : Type 1
Places = Region → Span → Type 0

-- the outcome is a value, or an error at one of these spans
abbrev pub Finds : Places → {A : Type 0} → Outcome A → Type 0
Finds P (Ok a) = ⊤
Finds P (Err r) = P (region (says_no_network r.error_code) r.text) r.at

-- the spans in a model and in a data file with these sizes in bytes
abbrev pub IsInFiles : (model_size data_size : ℕ) → Places
IsInFiles model_size data_size Model at = IsSpanIn model_size at
IsInFiles model_size data_size Data at = IsSpanIn data_size at
IsInFiles model_size data_size (Refuted languages.Model) at = IsSpanIn model_size at
IsInFiles model_size data_size (Refuted languages.Data) at = IsSpanIn data_size at
