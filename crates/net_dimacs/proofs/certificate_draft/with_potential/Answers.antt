use Rattle.std.proofs.Common.{arith}
use Rattle.std.proofs.lemmas.Grind.{common_steps}
use Rattle.net_dimacs.proofs.certificate_draft.with_potential.Goals as goal

pub returns-then-is_node : goal.returns-then-is_node
returns-then-is_node c = grind (arith, common_steps)
