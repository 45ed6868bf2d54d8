use Rattle.std.proofs.Common.{ap, sym, ◌∙◌, arith}
use Rattle.std.proofs.lemmas.Grind.{common_steps}
use Rattle.net_linear.proofs.Adding.{small_stops, small_goes, missing}
use Rattle.net_linear.proofs.products.are_small.Goals as goal
use Rattle.net_linear.proofs.products.are_small.Goals.{in-Some+else-not-is_small_wide, in_default}

pub returns-then-not-is_small_wide : goal.returns-then-not-is_small_wide
returns-then-not-is_small_wide c =
    small_stops c.args.products.now c.loop-index.index _ c.in-Some.coefficient.now c.in-Some.ensures (sym c.is_small_wide.ensures ∙ c.if-not-is_small_wide.true) ∙ c.loop-index.invariant

pub loop-index-preserved : goal.loop-index-preserved
loop-index-preserved c = elim c.match-entry.branch [
  | in-Some+else-not-is_small_wide w ↦
      small_goes c.args.products.now c.loop-index.index _ w.in-Some.coefficient.now w.in-Some.ensures (sym w.is_small_wide.ensures ∙ w.if-not-is_small_wide.false) ∙ c.loop-index.invariant
  | in_default w ↦ missing c.args.products.now c.loop-index.index c.len-index-end.result c.len-index-end.ensures c.loop-index-test.true w.in_default.ensures
]

pub returns : goal.returns
returns c = grind (arith, common_steps)
