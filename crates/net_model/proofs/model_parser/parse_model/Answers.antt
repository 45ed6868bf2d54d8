use Rattle.std.proofs.Common.{arith}
use Rattle.std.proofs.lemmas.Grind.{common_steps}
use Rattle.net_model.specs.Models.{of_grammar}
use Rattle.net_model.proofs.model_parser.parse_model.Goals as goal

pub returns-in-Err-clause-value : goal.returns-in-Err-clause-value
returns-in-Err-clause-value c = grind (arith, common_steps)

pub returns-in-Err-clause-rejected : goal.returns-in-Err-clause-rejected
returns-in-Err-clause-rejected c = of_grammar c.in-Err.fault c.in-Err.ensures.rejected
