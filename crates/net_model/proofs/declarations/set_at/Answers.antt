use Rattle.std.proofs.lemmas.Result.{err_from_is_err_and}
use Rattle.net_tree.specs.Tree.{set}
use Rattle.net_model.specs.Declarations.{set_at}
use Rattle.net_model.proofs.Storing.{stored}
use Rattle.std.proofs.Common.{arith}
use Rattle.net_model.proofs.declarations.set_at.Goals as goal

pub returns-in_err-phrased-clause-value : goal.returns-in_err-phrased-clause-value
unfolding set_at
returns-in_err-phrased-clause-value c =
    let y = err_from_is_err_and c.from_residual-in_err-phrased.result c.from_residual-in_err-phrased.ensures.1 in
    rw y.1 (rw y.2 (rw c.in_ok-name.ensures.value (c.in_err-phrased.ensures.value (λ s e. set c.args.word c.in_ok-name.name s e))))

pub returns-clause-value : goal.returns-clause-value
unfolding set_at
returns-clause-value c =
    stored _ c.new.result c.new.ensures.value c.new.ensures.memory (rw c.into_inner-said.ensures (rw c.in_ok-name.ensures.value (c.in_ok-phrased.ensures.value (λ s e. set c.args.word c.in_ok-name.name s e))))

pub returns-clause-shorter : goal.returns-clause-shorter
returns-clause-shorter c = grind (arith)
