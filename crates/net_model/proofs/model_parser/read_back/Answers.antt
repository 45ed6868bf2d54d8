use Rattle.net_model.proofs.ModelLaws.{model-complete}
use Rattle.net_model.proofs.ModelLimits.{deep-stops}
use Rattle.net_model.proofs.model_parser.read_back.Goals as goal

pub returns-clause-kept : goal.returns-clause-kept
returns-clause-kept c = model-complete

pub returns-clause-exceeded : goal.returns-clause-exceeded
returns-clause-exceeded c = deep-stops
