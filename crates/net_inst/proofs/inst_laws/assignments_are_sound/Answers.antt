use Rattle.net_inst.proofs.SoundAssignments.{assignments_are_sound}
use Rattle.net_inst.proofs.inst_laws.assignments_are_sound.Goals as goal

pub returns : goal.returns
returns c = record { value = assignments_are_sound }
