use Rattle.net_model.proofs.Deciding.{decided}
use Rattle.net_model.proofs.model_parser.parsed_or_rejected.Goals as goal

pub returns : goal.returns
returns c = record { value = decided }
