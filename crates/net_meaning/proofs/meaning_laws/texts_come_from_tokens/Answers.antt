use Rattle.net_meaning.specs.Laws.{Passes}
use Rattle.net_meaning.proofs.TextNetworks.{network_holds}
use Rattle.net_meaning.proofs.TextValues.{value_holds, keys_hold}
use Rattle.net_meaning.proofs.TextWorlds.{world_holds}
use Rattle.net_meaning.proofs.meaning_laws.texts_come_from_tokens.Goals as goal

pub returns : goal.returns
returns c = record { values = λ test. value_holds (Passes test); keys = λ test. keys_hold (Passes test); world = λ test. world_holds (Passes test); labels = λ test. network_holds (Passes test) }
