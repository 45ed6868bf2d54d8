use Rattle.net_model.proofs.GrammarModelsSound.{model-unique}
use Rattle.net_model.proofs.model_parser.grammar_unique.Goals as goal

pub returns : goal.returns
returns c = record { value = model-unique }
