use Rattle.net_data.proofs.GrammarAgrees.{unambiguous}
use Rattle.net_data.proofs.data_parser.grammar_is_unambiguous.Goals as goal

pub returns : goal.returns
returns c = record { value = unambiguous }
