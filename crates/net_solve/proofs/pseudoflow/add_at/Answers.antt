use Rattle.std.proofs.Common.{pos, arith}
use Rattle.std.proofs.lemmas.List.{get_or_read}
use Rattle.net_solve.proofs.Changes.{sum-wide, sum-wide_fits, set-added}
use Rattle.net_solve.proofs.pseudoflow.add_at.Goals as goal

pub overflow_add-index_mut : goal.overflow_add-index_mut
overflow_add-index_mut c =
    let old = get_or_read c.args.numbers.now.items _ _ (omega (arith, c.requires.node, c.args.numbers.now.ok.0)) c.index_mut.ensures.value (pos 0) in
    sum-wide_fits c.index_mut.result.now _ c.args.amount old c.requires.size c.requires.amount

pub returns-clause-value : goal.returns-clause-value
returns-clause-value c = λ v l.
    let xs = c.args.numbers.now.items in
    let old = get_or_read xs _ _ (omega (arith, c.requires.node, c.args.numbers.now.ok.0)) c.index_mut.ensures.value (pos 0) in
    set-added xs c.args.node v _ c.args.amount (omega (arith, c.requires.node, c.args.numbers.now.ok.0)) (omega (arith, l, c.args.numbers.now.ok.0))
    (sum-wide c.index_mut.result.now _ c.args.amount old c.requires.size c.requires.amount)
