use Rattle.std.proofs.Common.{ap, sym, ◌∙◌, rules}
use Rattle.net_expr.specs.Worlds.{bound}
use Rattle.net_expr.proofs.Scoping.{at_last, all_taken, none_left}
use Rattle.net_expr.proofs.scope.Scope.get.Goals as goal

pub loop-newer-init : goal.loop-newer-init
loop-newer-init c = all_taken c.as_slice-bindings.result.now c.self.inside.bindings c.args.name.now c.as_slice-bindings.ensures ∙ ap (λ s. bound s c.args.name.now) c.self.view_is

pub loop-newer-preserved : goal.loop-newer-preserved
loop-newer-preserved c =
    let here = at_last c.as_slice-bindings.result.now c.loop-newer.newer c.index-bindings-count.result c.args.name.now _ c.loop-newer-test.true c.index-bindings-count.is c.loop-newer.invariant in
    let differs = sym c.is_same_name.ensures ∙ c.if-is_same_name.false in
    search (rules, here, differs)

pub returns-then-is_same_name : goal.returns-then-is_same_name
returns-then-is_same_name c =
    let here = at_last c.as_slice-bindings.result.now c.loop-newer.newer c.index-bindings-count.result c.args.name.now _ c.loop-newer-test.true c.index-bindings-count.is c.loop-newer.invariant in
    let same = sym c.is_same_name.ensures ∙ c.if-is_same_name.true in
    search (rules, here, same)

pub returns : goal.returns
returns c = sym (none_left c.as_slice-bindings.result.now c.loop-newer.newer c.args.name.now c.loop-newer-test.false) ∙ c.loop-newer.invariant
