use Rattle.net_base.specs.Places.{IsInFiles}
use Rattle.net_expr.proofs.ValueFaults.{finds_value, finds_index}
use Rattle.net_expr.proofs.expression_calls.errors_are_in_expressions.Goals as goal

pub returns : goal.returns
returns c = record { values = λ size. finds_value (IsInFiles size 0); keys = λ size. finds_index (IsInFiles size 0) }
