use Rattle.net_tree.specs.View as view
use Rattle.net_model.proofs.NamedModels.{named_fault}
use Rattle.net_model.proofs.model_parser.checked.Goals as goal

pub returns-in-Err-clause-rejected : goal.returns-in-Err-clause-rejected
returns-in-Err-clause-rejected c = named_fault c.args.tokens.now (view.model c.args.model) c.in-Err.fault c.requires.means c.in-Err.ensures
