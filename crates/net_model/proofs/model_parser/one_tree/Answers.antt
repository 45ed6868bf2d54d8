use Rattle.net_model.proofs.ModelLaws.{one_model}
use Rattle.net_model.proofs.TreeLaws.{one_tree}
use Rattle.net_model.proofs.model_parser.one_tree.Goals as goal

pub returns-clause-expressions : goal.returns-clause-expressions
returns-clause-expressions c = one_tree

pub returns-clause-models : goal.returns-clause-models
returns-clause-models c = one_model
