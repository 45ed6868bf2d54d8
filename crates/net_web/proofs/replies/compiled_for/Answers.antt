use Rattle.std.proofs.Common.{Option, inr, subst}
use Rattle.net_expr.specs.Worlds.{Name}
use Rattle.net_driver.specs.Reporting.{IsRejection}
use Rattle.net_web.specs.Replies.{IsReply, IsCompileText}
use Rattle.net_web.proofs.replies.compiled_for.Goals as goal

pub returns-in-Ok : goal.returns-in-Ok
returns-in-Ok c =
    inr (subst (λ (requested : Option Name). IsReply (IsCompileText c.args.lean requested c.args.model.now c.args.data.now) (IsRejection requested c.args.model.now c.args.data.now) c.compiled.result.status c.compiled.result.text.items)
    c.in-Ok.ensures c.compiled.ensures)
