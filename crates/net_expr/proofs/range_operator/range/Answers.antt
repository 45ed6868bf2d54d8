use Rattle.std.proofs.Common.{arith}
use Rattle.std.proofs.lemmas.Grind.{common_steps}
use Rattle.net_expr.proofs.range_operator.range.Goals as goal

pub range_within-requires-clause-moves : goal.range_within-requires-clause-moves
range_within-requires-clause-moves c = grind (arith, common_steps)

pub range_within-requires-clause-small : goal.range_within-requires-clause-small
range_within-requires-clause-small c = grind (arith, common_steps)

pub returns : goal.returns
returns c = grind (arith, common_steps)
