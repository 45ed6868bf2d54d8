use Rattle.net_meaning.proofs.UniqueWorlds.{worlds_are_unique}
use Rattle.net_meaning.proofs.meaning_laws.worlds_are_unique.Goals as goal

pub returns : goal.returns
returns c = record { value = worlds_are_unique }
