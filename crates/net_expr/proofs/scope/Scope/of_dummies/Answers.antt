use Rattle.std.proofs.Common.{ap, sym, ◌∙◌, arith}
use Rattle.std.specs.Prelude.{◌≤◌, length, min, reverse}
use Rattle.net_expr.proofs.RowLists.{bound_all}
use Rattle.net_expr.proofs.scope.Scope.of_dummies.Goals as goal

pub returns : goal.returns
returns c =
    let least = c.min-count.ensures in
    let last = c.loop-place-test.false in
    let bounds : min (length c.args.names.now) (length c.args.members.now) ≤ c.loop-place.place = omega (arith, least, last) in
    ap reverse c.new.ensures ∙ sym (bound_all c.args.names.now c.args.members.now _ c.loop-place.place bounds) ∙ c.loop-place.invariant
