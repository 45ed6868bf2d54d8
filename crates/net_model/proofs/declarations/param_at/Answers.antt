use Rattle.std.proofs.lemmas.Result.{err_from_is_err_and}
use Rattle.net_tree.specs.Tree.{param}
use Rattle.net_model.specs.Declarations.{param_at}
use Rattle.net_model.proofs.Storing.{stored}
use Rattle.std.proofs.Common.{arith}
use Rattle.net_model.proofs.declarations.param_at.Goals as goal

pub returns-in_err-detailed-clause-value : goal.returns-in_err-detailed-clause-value
unfolding param_at
returns-in_err-detailed-clause-value c =
    let y = err_from_is_err_and c.from_residual.result c.from_residual.ensures.1 in
    rw y.1 (rw y.2 (c.in_err-detailed.ensures.value (λ n b s e. param c.args.word n b s e)))

pub returns-clause-value : goal.returns-clause-value
unfolding param_at
returns-clause-value c =
    stored _ c.new.result c.new.ensures.value c.new.ensures.memory (rw c.into_inner-name.ensures (c.in_ok-detailed.ensures.value (λ n b s e. param c.args.word n b s e)))

pub returns-clause-shorter : goal.returns-clause-shorter
returns-clause-shorter c = grind (arith)
