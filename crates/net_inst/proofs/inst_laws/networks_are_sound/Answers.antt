use Rattle.net_inst.proofs.SoundNetworks.{networks_are_sound}
use Rattle.net_inst.proofs.inst_laws.networks_are_sound.Goals as goal

pub returns : goal.returns
returns c = record { value = networks_are_sound }
