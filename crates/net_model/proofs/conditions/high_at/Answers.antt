use Rattle.std.proofs.Common.{arith}
use Rattle.std.proofs.lemmas.Grind.{common_steps}
use Rattle.net_model.specs.Conditions.{high_at}
use Rattle.net_model.proofs.conditions.high_at.Goals as goal

pub returns-then-chain_next-clause-value : goal.returns-then-chain_next-clause-value
unfolding high_at
returns-then-chain_next-clause-value c = grind (arith, common_steps)

pub returns-in_ok-one-clause-value : goal.returns-in_ok-one-clause-value
unfolding high_at
returns-in_ok-one-clause-value c = grind (arith, common_steps)

pub returns-in_ok-one-clause-shorter : goal.returns-in_ok-one-clause-shorter
unfolding high_at
returns-in_ok-one-clause-shorter c = grind (arith, common_steps)

pub returns-then-chain_next-clause-shorter : goal.returns-then-chain_next-clause-shorter
unfolding high_at
returns-then-chain_next-clause-shorter c = grind (arith, common_steps)
