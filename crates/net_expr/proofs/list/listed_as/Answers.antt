use Rattle.std.proofs.Common.{arith}
use Rattle.std.proofs.lemmas.Grind.{common_steps}
use Rattle.net_expr.proofs.list.listed_as.Goals as goal

pub returns-else-all_of : goal.returns-else-all_of
returns-else-all_of c = grind (arith, common_steps)

pub slice_bounds-rest-count : goal.slice_bounds-rest-count
slice_bounds-rest-count c = grind (arith, common_steps)

pub returns-then-all_of : goal.returns-then-all_of
returns-then-all_of c = grind (arith, common_steps)

pub bounds-tuples-0 : goal.bounds-tuples-0
bounds-tuples-0 c = grind (arith, common_steps)

pub slice_bounds-rest-start : goal.slice_bounds-rest-start
slice_bounds-rest-start c = grind (arith, common_steps)
