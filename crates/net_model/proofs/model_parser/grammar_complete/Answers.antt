use Rattle.net_model.proofs.GrammarModelsComplete.{model-complete}
use Rattle.net_model.proofs.model_parser.grammar_complete.Goals as goal

pub returns : goal.returns
returns c = record { value = model-complete }
