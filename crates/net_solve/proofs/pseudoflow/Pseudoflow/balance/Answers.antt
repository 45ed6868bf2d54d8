use Rattle.std.proofs.Common.{vec_len, arith}
use Rattle.std.proofs.lemmas.Grind.{common_steps}
use Rattle.net_solve.proofs.Closing.{within-level}
use Rattle.net_solve.proofs.pseudoflow.Pseudoflow.balance.Goals as goal

pub grow-requires-clause-potentials : goal.grow-requires-clause-potentials
grow-requires-clause-potentials c = within-level (vec_len c.args.problem.now.supplies) c.args.most c.close_gaps.new.self.potentials.items c.args.problem.now.few_nodes c.requires.most c.in_ok-close_gaps.ensures.potentials

pub grow-requires-clause-under_way : goal.grow-requires-clause-under_way
grow-requires-clause-under_way c = grind (arith, common_steps)

pub growths-preserved-else-is_some : goal.growths-preserved-else-is_some
growths-preserved-else-is_some c = grind (arith, common_steps)

pub returns-then-is_some-clause-under_way : goal.returns-then-is_some-clause-under_way
returns-then-is_some-clause-under_way c = grind (arith, common_steps)

pub grow-requires-clause-node : goal.grow-requires-clause-node
grow-requires-clause-node c = grind (arith, common_steps)

pub close_gaps-requires-clause-most : goal.close_gaps-requires-clause-most
close_gaps-requires-clause-most c = grind (arith, common_steps)

pub growths-smaller : goal.growths-smaller
growths-smaller c = grind (arith, common_steps)

pub growths-smaller-else-is_some : goal.growths-smaller-else-is_some
growths-smaller-else-is_some c = grind (arith, common_steps)

pub returns-then-is_some-clause-sent : goal.returns-then-is_some-clause-sent
returns-then-is_some-clause-sent c = grind (arith, common_steps)

pub returns-then-is_some-clause-stuck : goal.returns-then-is_some-clause-stuck
returns-then-is_some-clause-stuck c = grind (arith, common_steps)

pub returns-clause-sent : goal.returns-clause-sent
returns-clause-sent c = grind (arith, common_steps)

pub grow-requires-clause-root : goal.grow-requires-clause-root
grow-requires-clause-root c = grind (arith, common_steps)

pub close_gaps-requires-clause-under_way : goal.close_gaps-requires-clause-under_way
close_gaps-requires-clause-under_way c = grind (arith, common_steps)
