use Rattle.net_driver.proofs.ModelMeaning.{compiled_represent}
use Rattle.net_inst.proofs.SoundProblems.{problems_represent}
use Rattle.net_driver.proofs.driver_laws.compiled_problems_represent_models.Goals as goal

pub returns : goal.returns
returns c = record { value = compiled_represent problems_represent }
