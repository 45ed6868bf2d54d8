use Rattle.net_expr.proofs.KeysOnce.{have_distinct_keys}
use Rattle.net_expr.proofs.expression_calls.keys_are_distinct.Goals as goal

pub returns : goal.returns
returns c = record { value = have_distinct_keys }
