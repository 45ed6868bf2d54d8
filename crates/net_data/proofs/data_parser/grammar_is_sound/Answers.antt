use Rattle.net_data.proofs.GrammarAgrees.{sound}
use Rattle.net_data.proofs.data_parser.grammar_is_sound.Goals as goal

pub returns : goal.returns
returns c = record { value = sound }
