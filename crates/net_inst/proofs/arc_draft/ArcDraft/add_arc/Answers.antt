use Rattle.std.proofs.Common.{arith}
use Rattle.std.proofs.lemmas.Grind.{common_steps}
use Rattle.net_inst.proofs.arc_draft.ArcDraft.add_arc.Goals as goal

pub returns-in_ok-push-clause-count : goal.returns-in_ok-push-clause-count
returns-in_ok-push-clause-count c = grind (arith, common_steps)

pub returns-in_err-new-clause-value : goal.returns-in_err-new-clause-value
returns-in_err-new-clause-value c = grind (arith, common_steps)

pub returns-in_ok-push-clause-value : goal.returns-in_ok-push-clause-value
returns-in_ok-push-clause-value c = grind (arith, common_steps)

pub invariant_of-self : goal.invariant_of-self
invariant_of-self c = grind (arith)

pub invariant_of-self-in_err-push : goal.invariant_of-self-in_err-push
invariant_of-self-in_err-push c = grind (arith)

pub invariant_of-self-then-arc-lt-ARC_LIMIT : goal.invariant_of-self-then-arc-lt-ARC_LIMIT
invariant_of-self-then-arc-lt-ARC_LIMIT c = grind (arith)

pub returns-in_ok-reject_name-clause-value : goal.returns-in_ok-reject_name-clause-value
returns-in_ok-reject_name-clause-value c = grind (arith)
