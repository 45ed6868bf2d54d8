use Rattle.std.proofs.Common.{refl, ap, ◌∙◌, inl, inr, arith}
use Rattle.net_tree.specs.View.{tree}
use Rattle.net_tree.proofs.Views.{views, tree-leaf, tree-indexed, tree-tuple, tree-negated, tree-braced, tree-signed, tree-reduced, tree-choice, tree-net}
use Rattle.net_expr.proofs.Walking.{answers_by}
use Rattle.net_bind.proofs.Products.{alike}
use Rattle.net_bind.proofs.crossing.+product_of.Goals as goal

pub returns-else-are_crosses : goal.returns-else-are_crosses
returns-else-are_crosses t c = answers_by _ _ _ (grind (arith, views)) c.single.ensures

pub returns-in-If : goal.returns-in-If
returns-in-If t c =
    answers_by _ _ _
    (elim c.in-If.is [
      | inl e ↦ alike c.args.env.now c.args.expr.now _ (ap tree e.3 ∙ tree-choice e.0 e.1 e.2) refl
      | inr e ↦ alike c.args.env.now c.args.expr.now _ (ap tree e.1 ∙ tree-net e.0) refl
    ])
    c.single-in-If.ensures

pub returns-in-Braced : goal.returns-in-Braced
returns-in-Braced t c =
    answers_by _ _ _
    (elim c.in-Braced.is [
      | inl e ↦ alike c.args.env.now c.args.expr.now _ (ap tree e.1 ∙ tree-braced e.0) refl
      | inr f ↦ elim f [
        | inl e ↦ alike c.args.env.now c.args.expr.now _ (ap tree e.1 ∙ tree-signed e.0.0 e.0.1) refl
        | inr e ↦ alike c.args.env.now c.args.expr.now _ (ap tree e.2 ∙ tree-reduced e.0.0 e.0.1 e.1) refl
      ]
    ])
    c.single-in-Braced.ensures

pub returns-in-Leaf : goal.returns-in-Leaf
returns-in-Leaf t c =
    answers_by _ _ _
    (elim c.in-Leaf.is [
      | inl e ↦ alike c.args.env.now c.args.expr.now _ (ap tree e.1 ∙ tree-leaf e.0) refl
      | inr f ↦ elim f [
        | inl e ↦ alike c.args.env.now c.args.expr.now _ (ap tree e.1 ∙ tree-indexed e.0.0 e.0.1 e.0.2 e.0.3) refl
        | inr g ↦ elim g [
          | inl e ↦ alike c.args.env.now c.args.expr.now _ (ap tree e.1 ∙ tree-tuple e.0.0 e.0.1 e.0.2) refl
          | inr e ↦ alike c.args.env.now c.args.expr.now _ (ap tree e.1 ∙ tree-negated e.0.0 e.0.1 e.0.2 e.0.3) refl
        ]
      ]
    ])
    c.single-in-Leaf.ensures
