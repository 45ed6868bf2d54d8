use Rattle.net_bind.proofs.SoundChecks.{checks_are_sound}
use Rattle.net_bind.proofs.eval_laws.checks_are_sound.Goals as goal

pub returns : goal.returns
returns c = record { value = checks_are_sound }
