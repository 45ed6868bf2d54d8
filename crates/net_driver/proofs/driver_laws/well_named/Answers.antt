use Rattle.net_model.proofs.NamedModels.{meant_well_named, named_meant}
use Rattle.net_driver.proofs.driver_laws.well_named.Goals as goal

pub returns-clause-value : goal.returns-clause-value
returns-clause-value c = meant_well_named

pub returns-clause-meant : goal.returns-clause-meant
returns-clause-meant c = named_meant
