use Rattle.std.specs.Option.{IfSome}
use Rattle.std.specs.Prelude.{◌≡◌, IfOk, Ok, Some}
use Rattle.std.proofs.Common.{subst, sym, ◌∙◌}
use Rattle.net_tree.specs.declared.expr.LinkedOperand.{out-LinkedOperand}
use Rattle.net_expr.specs.Indexings.{indexing_in}
use Rattle.net_expr.proofs.DeclaredRows.{filled_one, filled_two, no_items, one_item}
use Rattle.net_expr.proofs.declared_rows.declared_rows.Goals as goal

pub returns-in-empty : goal.returns-in-empty
returns-in-empty c =
    let f = c.in-Filled in
    let form = filled_one c.args.braces.now f.field-0 f.series f.condition f.field-3 f.is c.in-None.is (sym c.as_slice.ensures ∙ no_items c.as_slice.result.now c.in-empty.len_below) in
    subst (λ b. IfOk c.one_set.result (λ found. IfSome found (λ i. indexing_in c.args.env.now (Some b) ≡ Ok i))) (sym form) (c.one_set.ensures f.field-0 f.field-3)

pub returns-in-len1 : goal.returns-in-len1
returns-in-len1 c =
    let f = c.in-Filled in
    let l = c.link-item.result in
    let form = filled_two c.args.braces.now f.field-0 f.series f.condition f.field-3 l f.is c.in-None.is (sym c.as_slice.ensures ∙ one_item c.as_slice.result.now l c.in-len1.len_at_least c.in-len1.len_below c.link-item.is) in
    subst (λ b. IfOk c.two_sets.result (λ found. IfSome found (λ i. indexing_in c.args.env.now (Some b) ≡ Ok i))) (sym form) (c.two_sets.ensures f.field-0 f.field-3 (out-LinkedOperand l).operator)
