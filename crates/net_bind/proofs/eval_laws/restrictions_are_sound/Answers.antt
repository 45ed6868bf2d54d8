use Rattle.net_bind.proofs.SoundRestrictions.{restrictions_are_sound}
use Rattle.net_bind.proofs.eval_laws.restrictions_are_sound.Goals as goal

pub returns : goal.returns
returns c = record { value = restrictions_are_sound }
