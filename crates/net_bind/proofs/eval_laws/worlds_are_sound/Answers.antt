use Rattle.net_bind.proofs.SoundWorlds.{worlds_are_sound}
use Rattle.net_bind.proofs.eval_laws.worlds_are_sound.Goals as goal

pub returns : goal.returns
returns c = record { value = worlds_are_sound }
