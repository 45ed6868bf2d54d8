use Rattle.net_model.proofs.GrammarModelsSound.{model-sound}
use Rattle.net_model.proofs.model_parser.grammar_sound.Goals as goal

pub returns : goal.returns
returns c = record { value = model-sound }
