use Rattle.std.specs.Option.{IfSome}
use Rattle.std.proofs.Common.{subst, arith}
use Rattle.net_tree.specs.View.{tree}
use Rattle.net_expr.specs.DeclaredRows.{AreWide, IsItem}
use Rattle.net_expr.proofs.DeclaredRows.{all_have}
use Rattle.net_expr.proofs.declared_rows.factor_of.Goals as goal
use Rattle.net_expr.proofs.declared_rows.factor_of.Goals.{else-has_dummies-via-then-has_dummies+else-saturating_sub-width, else-has_dummies-via-else-has_dummies}

pub returns-clause-value : goal.returns-clause-value
returns-clause-value c =
    let w = c.args.env.now in
    let x = tree c.args.item.now in
    let before = c.args.names.now.items in
    let after = c.set_of_item.new.names.items in
    let set = c.in-Some.set in
    let width = c.in-Some-width_of.width in
    let item : IsItem w x before after set = subst (λ o. IfSome o (IsItem w x before after)) c.in-Some.is c.in_ok-set.ensures in
    record {
      item = item;
      wide = subst (AreWide width) c.get.ensures c.in-Some-width_of.ensures.value;
      short = c.in-Some-width_of.ensures.fits;
      all_bound = λ has. elim c.else-has_dummies.branch [
        | else-has_dummies-via-then-has_dummies+else-saturating_sub-width v ↦
            let now = v.len.ensures in
            let then = c.len-before.ensures in
            let rest = v.saturating_sub.ensures in
            let all = v.if-saturating_sub-width.false in
            all_have w x before after set width item (omega (arith, now, then, rest, all))
        | else-has_dummies-via-else-has_dummies v ↦
            let none = v.if-has_dummies.false in
            let is = c.has_in-has_dummies.ensures in
            absurd (grind (arith, none, is, has))
      ];
    }
