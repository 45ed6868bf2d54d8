use Rattle.std.proofs.Common.{arith}
use Rattle.std.proofs.lemmas.Grind.{common_steps}
use Rattle.net_linear.proofs.net_term.net_chain.Goals as goal

pub returns-else-are_terms : goal.returns-else-are_terms
returns-else-are_terms c = grind (arith, common_steps)

pub returns-then-are_terms : goal.returns-then-are_terms
returns-then-are_terms c = grind (arith, common_steps)
