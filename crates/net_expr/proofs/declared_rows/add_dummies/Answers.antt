use Rattle.std.proofs.Common.{sym, subst}
use Rattle.net_tree.specs.View.{links_of, tree}
use Rattle.net_tree.specs.declared.expr.LinkedOperand.{out-LinkedOperand}
use Rattle.net_tree.proofs.Views.{next_link}
use Rattle.std.specs.Prelude.{◌+◌, drop}
use Rattle.net_expr.specs.DeclaredRows.{AreNewDummies}
use Rattle.net_expr.proofs.DeclaredRows.{more_dummies}
use Rattle.net_expr.proofs.declared_rows.add_dummies.Goals as goal

pub loop-component-preserved : goal.loop-component-preserved
loop-component-preserved c = λ after h.
    let w = c.args.env.now in
    let i = c.loop-component.component-index in
    let l = c.component-item.result in
    let left = next_link c.args.components.now i l c.loop-component-test.true c.component-item.is in
    c.loop-component.invariant after
    (subst (λ ls. AreNewDummies w ls c.loop-component.names.items after) (sym left)
    (more_dummies w c.loop-component.names.items c.add_dummy.new.names.items after (out-LinkedOperand l).operator (tree (out-LinkedOperand l).operand) (links_of (drop (i + 1) c.args.components.now))
    (c.in_ok-add_dummy.ensures c.if-not-branch.false) h))
