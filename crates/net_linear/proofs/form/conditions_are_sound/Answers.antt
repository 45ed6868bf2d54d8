use Rattle.net_linear.proofs.ConditionsSound.{conditions_are_sound}
use Rattle.net_linear.proofs.form.conditions_are_sound.Goals as goal

pub returns : goal.returns
returns c = record { value = conditions_are_sound }
