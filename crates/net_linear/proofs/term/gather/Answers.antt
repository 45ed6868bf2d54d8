use Rattle.std.proofs.Common.{refl, pos, arith}
use Rattle.std.proofs.lemmas.Grind.{common_steps}
use Rattle.net_linear.proofs.FormSizes.{room_next}
use Rattle.net_linear.proofs.term.gather.Goals as goal

pub returns-in_ok-sum-in-Some-clause-room : goal.returns-in_ok-sum-in-Some-clause-room
returns-in_ok-sum-in-Some-clause-room c =
    room_next c.args.sum c.in-Some.form c.in_ok-sum-in-Some.sum (pos 1) refl c.in_ok-sum-in-Some.ensures.value c.with.ensures.other.0 c.with.ensures.other.1

pub returns-in-None-clause-room : goal.returns-in-None-clause-room
returns-in-None-clause-room c = grind (arith, common_steps)

pub returns-in_ok-sum-in-Some-clause-value : goal.returns-in_ok-sum-in-Some-clause-value
returns-in_ok-sum-in-Some-clause-value c = grind (arith, common_steps)

pub returns-in-None-clause-value : goal.returns-in-None-clause-value
returns-in-None-clause-value c = grind (arith, common_steps)
