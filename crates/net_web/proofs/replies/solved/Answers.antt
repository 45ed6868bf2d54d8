use Rattle.std.proofs.Common.{refl, inl, inr}
use Rattle.net_driver.specs.IsSolved.{exit_kind_of}
use Rattle.net_web.proofs.replies.solved.Goals as goal

pub returns-in-Ok : goal.returns-in-Ok
returns-in-Ok c = inr (inl (exit_kind_of c.in-Ok.outcome, c.reply_of.ensures.status, (c.in-Ok.outcome, c.in-Ok.ensures.value, refl, c.reply_of.ensures.text)))
