use Rattle.std.proofs.Common.{arith}
use Rattle.std.proofs.lemmas.Grind.{common_steps}
use Rattle.net_tree.proofs.Views.{views}
use Rattle.net_model.proofs.phrases.body_of.Goals as goal

pub returns-in_ok-number-in-Number-clause-shorter : goal.returns-in_ok-number-in-Number-clause-shorter
returns-in_ok-number-in-Number-clause-shorter c = grind (arith, common_steps, views)

pub returns-in-Nothing-clause-value : goal.returns-in-Nothing-clause-value
returns-in-Nothing-clause-value c = grind (arith, common_steps, views)

pub returns-in-Nothing-clause-shorter : goal.returns-in-Nothing-clause-shorter
returns-in-Nothing-clause-shorter c = grind (arith, common_steps, views)

pub returns-in_ok-number-in-Number-clause-value : goal.returns-in_ok-number-in-Number-clause-value
returns-in_ok-number-in-Number-clause-value c = grind (arith, views)

pub returns-in_ok-climb_to-in-Set-clause-shorter : goal.returns-in_ok-climb_to-in-Set-clause-shorter
returns-in_ok-climb_to-in-Set-clause-shorter c = grind (arith)

pub returns-in_ok-climb_to-in-Set-clause-value : goal.returns-in_ok-climb_to-in-Set-clause-value
returns-in_ok-climb_to-in-Set-clause-value c = grind (arith, views)

pub returns-in_ok-climb_to-in-Sum-clause-shorter : goal.returns-in_ok-climb_to-in-Sum-clause-shorter
returns-in_ok-climb_to-in-Sum-clause-shorter c = grind (arith)

pub returns-in_ok-climb_to-in-Sum-clause-value : goal.returns-in_ok-climb_to-in-Sum-clause-value
returns-in_ok-climb_to-in-Sum-clause-value c = grind (arith, views)

pub returns-in_ok-named_of-in-Node-clause-shorter : goal.returns-in_ok-named_of-in-Node-clause-shorter
returns-in_ok-named_of-in-Node-clause-shorter c = grind (arith)

pub returns-in_ok-named_of-in-Node-clause-value : goal.returns-in_ok-named_of-in-Node-clause-value
returns-in_ok-named_of-in-Node-clause-value c = grind (arith, views)

pub returns-in_ok-price-in-Price-clause-shorter : goal.returns-in_ok-price-in-Price-clause-shorter
returns-in_ok-price-in-Price-clause-shorter c = grind (arith)

pub returns-in_ok-price-in-Price-clause-value : goal.returns-in_ok-price-in-Price-clause-value
returns-in_ok-price-in-Price-clause-value c = grind (arith, views)

pub returns-in_ok-wide_of-in-Value-clause-shorter : goal.returns-in_ok-wide_of-in-Value-clause-shorter
returns-in_ok-wide_of-in-Value-clause-shorter c = grind (arith)

pub returns-in_ok-wide_of-in-Value-clause-value : goal.returns-in_ok-wide_of-in-Value-clause-value
returns-in_ok-wide_of-in-Value-clause-value c = grind (arith, views)
