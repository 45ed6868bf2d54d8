use Rattle.net_data.proofs.GrammarAgrees.{complete}
use Rattle.net_data.proofs.data_parser.grammar_is_complete.Goals as goal

pub returns : goal.returns
returns c = record { value = complete }
