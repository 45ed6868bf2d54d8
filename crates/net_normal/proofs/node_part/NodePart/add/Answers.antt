use Rattle.std.proofs.Common.{arith}
use Rattle.std.proofs.lemmas.Grind.{common_steps}
use Rattle.std.proofs.lemmas.Int.{ints}
use Rattle.net_normal.proofs.node_part.NodePart.add.Goals as goal

pub overflow_sub-self : goal.overflow_sub-self
overflow_sub-self c = let small = c.own_supply-supply.ensures.size in omega (arith, ints)

pub returns-in_ok-push-2-clause-balance : goal.returns-in_ok-push-2-clause-balance
returns-in_ok-push-2-clause-balance c = let small = c.own_supply-supply.ensures.size in omega (arith, ints, c.own_supply-supply.ensures.value)

pub returns-else-is_open-clause-balance : goal.returns-else-is_open-clause-balance
returns-else-is_open-clause-balance c = let small = c.own_supply-supply.ensures.size in omega (arith, ints, c.own_supply-supply.ensures.value)

pub returns-else-is_open-clause-arcs : goal.returns-else-is_open-clause-arcs
returns-else-is_open-clause-arcs c = grind (arith, common_steps)

pub own_supply-supply-requires : goal.own_supply-supply-requires
own_supply-supply-requires c = grind (arith, common_steps)

pub returns-in_ok-push-2-clause-arcs : goal.returns-in_ok-push-2-clause-arcs
returns-in_ok-push-2-clause-arcs c = grind (arith, common_steps)

pub returns-in_ok-push-2-clause-supplies : goal.returns-in_ok-push-2-clause-supplies
returns-in_ok-push-2-clause-supplies c = grind (arith, common_steps)

pub own_slack-requires : goal.own_slack-requires
own_slack-requires c = grind (arith, common_steps)

pub returns-else-is_open-clause-supplies : goal.returns-else-is_open-clause-supplies
returns-else-is_open-clause-supplies c = grind (arith, common_steps)
