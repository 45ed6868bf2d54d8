use Rattle.net_expr.proofs.SetsGiven.{keeps_sets}
use Rattle.net_expr.proofs.expression_calls.values_keep_sets.Goals as goal

pub returns : goal.returns
returns c = record { value = keeps_sets }
