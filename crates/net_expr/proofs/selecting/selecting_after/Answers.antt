use Rattle.std.specs.Prelude.{Some, None, is_some}
use Rattle.std.proofs.Common.{refl, ap, sym, ◌∙◌, true, false, arith}
use Rattle.std.proofs.lemmas.Grind.{common_steps}
use Rattle.net_tree.specs.declared.expr.LinkedOperand.{LinkedOperand, out-LinkedOperand}
use Rattle.net_tree.specs.View.{tree}
use Rattle.net_expr.specs.Items.{bare, new_dummy}
use Rattle.net_expr.specs.Selecting.{dummy_alone}
use Rattle.net_expr.proofs.Passing.{one_chosen}
use Rattle.net_expr.proofs.selecting.selecting_after.Goals as goal

pub returns-in-Some : goal.returns-in-Some
returns-in-Some c =
    one_chosen c.args.env.now c.args.scope.now c.args.links.now c.loop-place.place c.index-links-place.result _ c.loop-place-test.true c.index-links-place.is c.loop-place.invariant (Some c.in-Some.member) (sym c.in-Some.is ∙ c.dummy_alone.ensures ∙ ap (λ (k : LinkedOperand). dummy_alone c.args.scope.now (bare (tree (out-LinkedOperand k).operand))) (sym c.index-links-place.is)) _ refl

pub returns-then-not-is_new : goal.returns-then-not-is_new
returns-then-not-is_new c =
    one_chosen c.args.env.now c.args.scope.now c.args.links.now c.loop-place.place c.index-links-place.result _ c.loop-place-test.true c.index-links-place.is c.loop-place.invariant None (sym c.in-None.is ∙ c.dummy_alone.ensures ∙ ap (λ (k : LinkedOperand). dummy_alone c.args.scope.now (bare (tree (out-LinkedOperand k).operand))) (sym c.index-links-place.is)) false (sym c.if-not-is_new.true ∙ c.is_new.ensures ∙ ap (λ (k : LinkedOperand). is_some (new_dummy c.args.env.now c.args.scope.now (tree (out-LinkedOperand k).operand))) (sym c.index-links-place.is))

pub loop-place-preserved : goal.loop-place-preserved
loop-place-preserved c =
    one_chosen c.args.env.now c.args.scope.now c.args.links.now c.loop-place.place c.index-links-place.result _ c.loop-place-test.true c.index-links-place.is c.loop-place.invariant None (sym c.in-None.is ∙ c.dummy_alone.ensures ∙ ap (λ (k : LinkedOperand). dummy_alone c.args.scope.now (bare (tree (out-LinkedOperand k).operand))) (sym c.index-links-place.is)) true (sym c.if-not-is_new.false ∙ c.is_new.ensures ∙ ap (λ (k : LinkedOperand). is_some (new_dummy c.args.env.now c.args.scope.now (tree (out-LinkedOperand k).operand))) (sym c.index-links-place.is))

pub returns : goal.returns
returns c = grind (arith, common_steps)

pub overflow_add-result : goal.overflow_add-result
overflow_add-result c = grind (arith, common_steps)

pub offset_bounds-links-place : goal.offset_bounds-links-place
offset_bounds-links-place c = grind (arith, common_steps)

pub bounds-links-place : goal.bounds-links-place
bounds-links-place c = grind (arith, common_steps)
