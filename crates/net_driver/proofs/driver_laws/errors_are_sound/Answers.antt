use Rattle.net_driver.proofs.NoNetwork.{errors_are_sound}
use Rattle.net_driver.proofs.TextFaults.{text_faults_are_first}
use Rattle.net_driver.proofs.driver_laws.errors_are_sound.Goals as goal

pub returns-clause-first : goal.returns-clause-first
returns-clause-first c = text_faults_are_first

pub returns-clause-value : goal.returns-clause-value
returns-clause-value c = errors_are_sound
