use Rattle.net_linear.proofs.ObjectivesSound.{objectives_are_sound}
use Rattle.net_linear.proofs.form.objectives_are_sound.Goals as goal

pub returns : goal.returns
returns c = record { value = objectives_are_sound }
