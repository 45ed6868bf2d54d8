use Rattle.std.proofs.Common.{arith}
use Rattle.std.proofs.lemmas.Grind.{common_steps}
use Rattle.net_inst.proofs.draft.Draft.add_objective.Goals as goal

pub returns-then-branch : goal.returns-then-branch
returns-then-branch c = grind (arith, common_steps)

pub returns-else-branch : goal.returns-else-branch
returns-else-branch c = grind (arith, common_steps)
