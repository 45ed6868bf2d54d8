-- The outcome for a certificate of the problem, by number.
use Rattle.std.specs.Prelude.{◌≡◌, ℕ, List, Bool, ℤ}
use Rattle.net_check.specs.declared.certificate.Side.{Side}
use Rattle.net_normal.specs.Links.{mapped_back, value_at}
use Rattle.net_report.specs.Cuts.{cut_text}
use Rattle.net_report.specs.Displays.{display_text}
use Rattle.net_check.specs.declared.certificate.Certificate.{Certificate}
use Rattle.net_check.specs.declared.certificate.Certificate.TheVariants.{Optimal, Cut}
use Rattle.net_driver.specs.declared.answer.Outcome.{Outcome}
use Rattle.net_driver.specs.declared.answer.Outcome.TheVariants.{Displayed, Infeasible}
use Rattle.net_driver.specs.declared.compiled.Compiled.{Compiled}

-- the flow mapped back to an assignment, with the objective value for its cost
pub record IsMappedBack (c : Compiled) (flows : List ℤ) (cost : ℤ) (text : List ℕ) (numbers : List ℤ) (value : ℤ) : Type 0 where
  pub maps_back : numbers ≡ mapped_back c.link flows
  pub is_value : value ≡ value_at c.link cost
  pub display : text ≡ display_text c.names numbers value

abbrev pub IsDisplayOf : Compiled → List ℤ → ℤ → Outcome → Type 0
IsDisplayOf c flows cost (Displayed text assignment value) = IsMappedBack c flows cost text.items assignment.items value
IsDisplayOf c flows cost (Infeasible text flags side) = ⊥

-- the printed form of this cut
pub record IsReportedCut (c : Compiled) (flags : List Bool) (side : Side) (text : List ℕ) (set : List Bool) (on : Side) : Type 0 where
  pub same_set : set ≡ flags
  pub same_side : on ≡ side
  pub reports : text ≡ cut_text c.names c.problem flags side

abbrev pub IsCutOf : Compiled → List Bool → Side → Outcome → Type 0
IsCutOf c flags side (Displayed text assignment value) = ⊥
IsCutOf c flags side (Infeasible text set on) = IsReportedCut c flags side text.items set.items on

abbrev pub IsOutcomeOf : Compiled → Certificate → Outcome → Type 0
IsOutcomeOf c (Optimal cost flows potentials) outcome = IsDisplayOf c flows.items cost outcome
IsOutcomeOf c (Cut flags side) outcome = IsCutOf c flags.items side outcome
