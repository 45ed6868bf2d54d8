use Rattle.std.proofs.Common.{arith}
use Rattle.std.proofs.lemmas.Grind.{common_steps}
use Rattle.net_dimacs.proofs.claim.side_claim.Goals as goal

pub bounds-word-0 : goal.bounds-word-0
bounds-word-0 c = grind (arith, common_steps)

pub bounds-word-1-in-117-1 : goal.bounds-word-1-in-117-1
bounds-word-1-in-117-1 c = grind (arith, common_steps)

pub bounds-word-4 : goal.bounds-word-4
bounds-word-4 c = grind (arith, common_steps)

pub bounds-word-3-in-100-1 : goal.bounds-word-3-in-100-1
bounds-word-3-in-100-1 c = grind (arith, common_steps)

pub bounds-word-2 : goal.bounds-word-2
bounds-word-2 c = grind (arith, common_steps)

pub bounds-word-2-in-110-1 : goal.bounds-word-2-in-110-1
bounds-word-2-in-110-1 c = grind (arith, common_steps)

pub bounds-word-0-then-word-lt6 : goal.bounds-word-0-then-word-lt6
bounds-word-0-then-word-lt6 c = grind (arith, common_steps)

pub bounds-word-1 : goal.bounds-word-1
bounds-word-1 c = grind (arith, common_steps)

pub bounds-word-3 : goal.bounds-word-3
bounds-word-3 c = grind (arith, common_steps)
