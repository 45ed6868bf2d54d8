use Rattle.std.proofs.Common.{refl, ap, sym, ◌∙◌, arith}
use Rattle.std.proofs.lemmas.Grind.{common_steps}
use Rattle.std.proofs.lemmas.Result.{err_from_is_err_and}
use Rattle.net_expr.proofs.Walking.{stops, goes}
use Rattle.net_bind.proofs.Products.{factors-left}
use Rattle.net_bind.proofs.crossing.with_factors.Goals as goal

pub returns-in_err-factor : goal.returns-in_err-factor
returns-in_err-factor c =
    let y = err_from_is_err_and c.from_residual.result c.from_residual.ensures.1 in
    rw y.1 (rw y.2
    (stops _ _ _ c.in_err-factor.field-0.0
    (factors-left c.args.at c.args.env.now c.args.links.now c.loop-link.link-index c.link-item.result c.loop-link.all _ c.loop-link-test.true c.link-item.is c.loop-link.invariant)
    c.in_err-factor.ensures))

pub returns-in_err-all : goal.returns-in_err-all
returns-in_err-all c =
    let y = err_from_is_err_and c.from_residual-in_err-all.result c.from_residual-in_err-all.ensures.1 in
    rw y.1 (rw y.2
    (stops _ _ _ c.in_err-all.field-0.0
    (goes _ _ _ _
    (factors-left c.args.at c.args.env.now c.args.links.now c.loop-link.link-index c.link-item.result c.loop-link.all _ c.loop-link-test.true c.link-item.is c.loop-link.invariant)
    c.in_ok-factor.ensures)
    c.in_err-all.ensures))

pub loop-link-preserved : goal.loop-link-preserved
loop-link-preserved c =
    sym (goes _ _ _ _
    (goes _ _ _ _
    (factors-left c.args.at c.args.env.now c.args.links.now c.loop-link.link-index c.link-item.result c.loop-link.all _ c.loop-link-test.true c.link-item.is c.loop-link.invariant)
    c.in_ok-factor.ensures)
    c.in_ok-all.ensures)
