use Rattle.std.proofs.Common.{arith}
use Rattle.std.proofs.lemmas.Result.{err_from_is_err_and}
use Rattle.net_tree.specs.View.{indexing_of}
use Rattle.net_model.proofs.Storing.{stored}
use Rattle.net_model.proofs.declarations.detailed.Goals as goal

pub returns-in_err-phrased-clause-value : goal.returns-in_err-phrased-clause-value
returns-in_err-phrased-clause-value c made =
    let y = err_from_is_err_and c.from_residual-in_err-phrased.result c.from_residual-in_err-phrased.ensures.1 in
    rw y.1 (rw y.2 (rw c.in_ok-name.ensures.value (rw c.in_ok-indexing.ensures.value (c.in_err-phrased.ensures.value (λ s e. made c.in_ok-name.name (indexing_of c.in_ok-indexing.indexing) s e)))))

pub returns-clause-value : goal.returns-clause-value
returns-clause-value c made =
    stored _ c.new.result c.new.ensures.value c.new.ensures.memory (rw c.into_inner.ensures (rw c.into_inner-said.ensures (rw c.in_ok-name.ensures.value (rw c.in_ok-indexing.ensures.value (c.in_ok-phrased.ensures.value (λ s e. made c.in_ok-name.name (indexing_of c.in_ok-indexing.indexing) s e))))))

pub returns-clause-shorter : goal.returns-clause-shorter
returns-clause-shorter c = grind (arith)
