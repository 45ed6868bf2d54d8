use Rattle.std.proofs.Common.{arith}
use Rattle.std.proofs.lemmas.Grind.{common_steps}
use Rattle.net_dimacs.proofs.progress.Progress.finished.Goals as goal

pub returns-else-len-draft-clause-memory : goal.returns-else-len-draft-clause-memory
returns-else-len-draft-clause-memory c = grind (arith, common_steps)

pub returns-then-len-draft-clause-memory : goal.returns-then-len-draft-clause-memory
returns-then-len-draft-clause-memory c = grind (arith, common_steps)

pub returns-then-len-draft-clause-value : goal.returns-then-len-draft-clause-value
returns-then-len-draft-clause-value c = grind (arith, common_steps)
