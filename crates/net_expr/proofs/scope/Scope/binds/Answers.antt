use Rattle.std.specs.Prelude.{◌≡◌, ◌<◌, ◌≤◌, length, min, reverse, take, true}
use Rattle.std.proofs.Common.{ap, sym, ◌∙◌, arith}
use Rattle.std.proofs.lemmas.List.{take_all}
use Rattle.net_sets.specs.Sets.{same_member}
use Rattle.net_expr.proofs.RowLists.{binds_next, bound_all}
use Rattle.net_expr.proofs.scope.Scope.binds.Goals as goal

pub loop-place-preserved : goal.loop-place-preserved
loop-place-preserved c =
    let bs = c.as_slice-bindings.result.now in
    let b = c.index-bindings-place.result in
    let n = c.index-names-place.result in
    let m = c.index-members-place.result in
    let least = c.min.ensures in
    let even = c.if-bindings-min.false in
    let there = c.loop-place-test.true in
    let same_value : same_member b.member m ≡ true = grind (arith, c.ne.ensures, c.if-ne.false) in
    binds_next c.args.names.now c.args.members.now bs c.loop-place.place n m b (omega (arith, least, even, there)) (omega (arith, least, even, there)) there
    c.index-names-place.is c.index-members-place.is c.index-bindings-place.is (sym c.is_same_name.ensures ∙ c.if-not-is_same_name.false) same_value
    ∙ c.loop-place.invariant

pub returns : goal.returns
returns c = λ e.
    let bs = c.as_slice-bindings.result.now in
    let least = c.min.ensures in
    let even = c.if-bindings-min.false in
    let last = c.loop-place-test.false in
    sym c.self.view_is ∙ ap reverse (sym c.as_slice-bindings.ensures) ∙ ap reverse (sym (take_all c.loop-place.place bs last))
    ∙ sym (bound_all c.args.names.now c.args.members.now (reverse (take c.loop-place.place bs)) c.loop-place.place (omega (arith, least, even, last))) ∙ c.loop-place.invariant
