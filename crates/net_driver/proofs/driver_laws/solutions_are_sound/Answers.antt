use Rattle.net_driver.proofs.Compilations.{solutions_are_sound}
use Rattle.net_driver.proofs.driver_laws.solutions_are_sound.Goals as goal

pub returns : goal.returns
returns c = record { value = solutions_are_sound }
