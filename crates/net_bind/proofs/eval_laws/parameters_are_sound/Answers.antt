use Rattle.net_bind.proofs.SoundParameters.{parameters_are_sound}
use Rattle.net_bind.proofs.eval_laws.parameters_are_sound.Goals as goal

pub returns : goal.returns
returns c = record { value = parameters_are_sound }
