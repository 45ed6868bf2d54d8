use Rattle.net_meaning.proofs.Unique.{values_are_unique, keys_are_unique}
use Rattle.net_meaning.proofs.meaning_laws.values_are_unique.Goals as goal

pub returns : goal.returns
returns c = record { value = values_are_unique; keys = keys_are_unique }
