use Rattle.net_driver.proofs.Compilations.{compilations_are_sound}
use Rattle.net_driver.proofs.driver_laws.compilations_are_sound.Goals as goal

pub returns : goal.returns
returns c = record { value = compilations_are_sound }
