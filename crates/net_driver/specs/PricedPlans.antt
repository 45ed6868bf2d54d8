-- A plan with prices: the potentials of the certificate that proves it, as prices of nodes and reduced costs of arcs.
use Rattle.std.specs.Prelude.{◌≡◌, ℕ, Bool, List, ◌++◌, Option, ℤ}
use Rattle.net_check.specs.Certificates.{IsOptimal}
use Rattle.net_check.specs.declared.certificate.Certificate.{Certificate}
use Rattle.net_check.specs.declared.certificate.Certificate.TheVariants.{Optimal, Cut}
use Rattle.net_expr.specs.Worlds.{Name}
use Rattle.net_normal.specs.declared.instance.Instance.{Instance}
use Rattle.net_normal.specs.Links.{mapped_back}
use Rattle.net_report.specs.Prices.{node_prices, reduced_costs, prices_text, prices_of_all}
use Rattle.net_driver.specs.declared.answer.Answer.{Answer}
use Rattle.net_driver.specs.declared.answer.Outcome.{Outcome}
use Rattle.net_driver.specs.declared.answer.Outcome.TheVariants.{Displayed, Infeasible}
use Rattle.net_driver.specs.declared.compiled.Compiled.{Compiled}
use Rattle.net_driver.specs.IsBuilt.{IsBuilt}
use Rattle.net_driver.specs.IsSolved.{IsSolved, text_of}
use Rattle.net_driver.specs.Outcomes.{IsOutcomeOf}

-- the model is compiled from this network
abbrev pub IsBuiltFrom : (lean : Bool) (wanted : Option Name) (model_text data_text : List ℕ) → Instance → Compiled → Type 0
IsBuiltFrom lean wanted model_text data_text instance c = (built : IsBuilt lean wanted model_text data_text c) × (built.made.instance ≡ instance)

-- the text of an outcome, with the prices of its certificate if it is a plan
abbrev pub HasPricesOf : Instance → Compiled → Certificate → Outcome → List ℕ → Type 0
HasPricesOf instance c (Optimal cost flows potentials) outcome text =
    text ≡ text_of outcome ++ prices_text c.names (node_prices instance potentials.items) (reduced_costs instance potentials.items)
HasPricesOf instance c (Cut flags side) outcome text = text ≡ text_of outcome

-- the outcome for this certificate, by number, with its prices
abbrev pub IsPricedOutcomeOf : Instance → Compiled → Certificate → Outcome → List ℕ → Type 0
IsPricedOutcomeOf instance c settled outcome text = IsOutcomeOf c settled outcome × HasPricesOf instance c settled outcome text

-- the text of a plan, followed by the prices of a certificate whose flows are the plan: each declared name with all of its nodes, then each with
-- all of its arcs
pub record IsPricedPlan (instance : Instance) (c : Compiled) (numbers : List ℤ) (shown text : List ℕ) : Type 0 where
  pub cost : ℤ
  pub flows : List ℤ
  pub potentials : List ℤ
  pub certificate : IsOptimal c.problem cost flows potentials
  pub maps_back : numbers ≡ mapped_back c.link flows
  pub displayed : text ≡ shown ++ prices_of_all c.names (node_prices instance potentials) (reduced_costs instance potentials)

-- a plan with its prices, or a cut alone
abbrev pub IsPricedOutcome : Instance → Compiled → Outcome → List ℕ → Type 0
IsPricedOutcome instance c (Displayed shown numbers value) text = IsPricedPlan instance c numbers.items shown.items text
IsPricedOutcome instance c (Infeasible shown flags side) text = text ≡ shown.items

-- the model is solved, and the text is that of the outcome with prices
abbrev pub IsSolvedWithPrices : (lean : Bool) (wanted : Option Name) (model_text data_text : List ℕ) → Answer → List ℕ → Type 0
IsSolvedWithPrices lean wanted model_text data_text a text =
    (solved : IsSolved lean wanted model_text data_text a) × IsPricedOutcome solved.compiled.made.instance a.compiled a.outcome text
