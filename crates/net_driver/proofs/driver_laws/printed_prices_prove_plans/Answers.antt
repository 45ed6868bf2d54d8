use Rattle.net_driver.proofs.PricedModels.{priced_plans_are_proved}
use Rattle.net_driver.proofs.driver_laws.printed_prices_prove_plans.Goals as goal

pub returns : goal.returns
returns c = record { value = priced_plans_are_proved }
