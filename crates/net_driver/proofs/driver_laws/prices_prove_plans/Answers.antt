use Rattle.net_driver.proofs.PlanProofs.{prices_prove}
use Rattle.net_driver.proofs.driver_laws.prices_prove_plans.Goals as goal

pub returns : goal.returns
returns c = record { value = prices_prove }
