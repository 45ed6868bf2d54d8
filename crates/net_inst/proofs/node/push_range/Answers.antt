use Rattle.std.proofs.Common.{arith}
use Rattle.std.proofs.lemmas.Grind.{common_steps}
use Rattle.net_inst.proofs.node.push_range.Goals as goal

pub returns-in_ok-push-clause-value : goal.returns-in_ok-push-clause-value
returns-in_ok-push-clause-value c = grind (arith, common_steps)

pub returns-in_err-range-clause-value : goal.returns-in_err-range-clause-value
returns-in_err-range-clause-value c = grind (arith, common_steps)

pub returns-in_ok-push-clause-few : goal.returns-in_ok-push-clause-few
returns-in_ok-push-clause-few c = grind (arith)
