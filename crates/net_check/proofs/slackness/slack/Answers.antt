use Rattle.std.proofs.Common.{arith}
use Rattle.std.proofs.lemmas.Grind.{common_steps}
use Rattle.net_check.proofs.slackness.slack.Goals as goal

pub returns-clause-none : goal.returns-clause-none
returns-clause-none c = grind (arith, common_steps)

pub returns-then-flow-arc-2-clause-some : goal.returns-then-flow-arc-2-clause-some
returns-then-flow-arc-2-clause-some c = grind (arith, common_steps)

pub returns-then-flow-arc-clause-some : goal.returns-then-flow-arc-clause-some
returns-then-flow-arc-clause-some c = grind (arith, common_steps)
