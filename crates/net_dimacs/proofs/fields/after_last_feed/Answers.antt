use Rattle.std.proofs.Common.{arith}
use Rattle.std.proofs.lemmas.Grind.{common_steps}
use Rattle.net_dimacs.proofs.FirstFields.{one_more_open, none_open}
use Rattle.net_dimacs.proofs.fields.after_last_feed.Goals as goal

pub loop-end-preserved : goal.loop-end-preserved
loop-end-preserved c = (omega arith, one_more_open c.args.bytes.now c.loop-end.end c.loop-end.invariant.0 (omega arith) (grind (arith, common_steps)) c.loop-end.invariant.1)

pub loop-end-init : goal.loop-end-init
loop-end-init c = (grind (arith, common_steps), none_open c.args.bytes.now)

pub overflow_sub-end-in-loop-end : goal.overflow_sub-end-in-loop-end
overflow_sub-end-in-loop-end c = grind (arith, common_steps)
