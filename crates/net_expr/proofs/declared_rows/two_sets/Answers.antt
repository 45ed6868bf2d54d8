use Rattle.std.specs.Prelude.{◌≡◌, []}
use Rattle.std.specs.Option.{IfSome}
use Rattle.std.proofs.Common.{sym, subst, ◌∙◌, rules}
use Rattle.std.proofs.lemmas.Result.{IfOk-weaker}
use Rattle.net_tree.specs.View.{tree}
use Rattle.net_expr.specs.DeclaredRows.{IsFactor}
use Rattle.net_expr.specs.Items.{has_in}
use Rattle.net_expr.proofs.DeclaredRows.{two_sets_rows, some_weaker}
use Rattle.net_expr.proofs.declared_rows.two_sets.Goals as goal

pub returns-then-one-two : goal.returns-then-one-two
returns-then-one-two c = λ o k q.
    let w = c.args.env.now in
    let i = tree c.args.first.now in
    let j = tree c.args.second.now in
    let one = c.in-Some.one in
    let two = c.in-Some-2.two in
    let mid = c.factor_of.new.names.items in
    let after = c.factor_of-2.new.names.items in
    let first : IsFactor w i [] mid one.width one.set =
    subst (λ ns. IsFactor w i ns mid one.width one.set) c.new-names.ensures.items
    (subst (λ o. IfSome o (λ f. IsFactor w i c.new-names.result.items mid f.width f.set)) c.in-Some.is c.in_ok-one.ensures.value) in
    let second : IsFactor w j mid after two.width two.set =
    subst (λ o. IfSome o (λ f. IsFactor w j mid after f.width f.set)) c.in-Some-2.is c.in_ok-two.ensures.value in
    let has : one.has_dummies ≡ has_in i = subst (λ o. IfSome o (λ f. f.has_dummies ≡ has_in i)) c.in-Some.is c.in_ok-one.ensures.bound in
    let have : two.has_dummies ≡ has_in j = subst (λ o. IfSome o (λ f. f.has_dummies ≡ has_in j)) c.in-Some-2.is c.in_ok-two.ensures.bound in
    let alike : one.has_dummies ≡ two.has_dummies = search rules in
    IfOk-weaker c.product_of.result _ _
    (λ found h. some_weaker found _ _ (λ made is. two_sets_rows w o q k i j mid after one.width two.width one.set two.set made first second (sym has ∙ alike ∙ have) is) h)
    c.product_of.ensures
