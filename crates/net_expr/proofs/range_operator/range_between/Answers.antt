use Rattle.std.proofs.Common.{arith}
use Rattle.std.proofs.lemmas.Grind.{common_steps}
use Rattle.net_expr.proofs.range_operator.range_between.Goals as goal

pub bounds-values-2 : goal.bounds-values-2
bounds-values-2 c = grind (arith, common_steps)

pub returns-in-len4-up : goal.returns-in-len4-up
returns-in-len4-up c = grind (arith, common_steps)

pub bounds-values-0-then-values-lt4 : goal.bounds-values-0-then-values-lt4
bounds-values-0-then-values-lt4 c = grind (arith, common_steps)

pub returns-in-len2 : goal.returns-in-len2
returns-in-len2 c = grind (arith, common_steps)

pub returns-in-len3 : goal.returns-in-len3
returns-in-len3 c = grind (arith, common_steps)

pub bounds-values-0 : goal.bounds-values-0
bounds-values-0 c = grind (arith, common_steps)

pub bounds-values-1-then-values-lt4 : goal.bounds-values-1-then-values-lt4
bounds-values-1-then-values-lt4 c = grind (arith, common_steps)

pub bounds-values-1 : goal.bounds-values-1
bounds-values-1 c = grind (arith, common_steps)

pub returns-in-empty : goal.returns-in-empty
returns-in-empty c = grind (arith, common_steps)
