use Rattle.std.proofs.Common.{ap, sym, subst, ◌∙◌}
use Rattle.std.specs.Prelude.{◌≡◌, ◌≤◌, [], length}
use Rattle.net_sets.specs.Limits.{tuples_limit}
use Rattle.net_sets.specs.Operations.{union}
use Rattle.net_expr.specs.Rows.{keys_of}
use Rattle.net_expr.specs.RowLists.{rows_in}
use Rattle.net_expr.proofs.RowLists.{keys_once}
use Rattle.net_expr.proofs.row_list.RowList.keys.Goals as goal

pub returns-in_ok-copied-in-Made : goal.returns-in_ok-copied-in-Made
returns-in_ok-copied-in-Made c =
    let m = c.in-Made in
    let all : union [] (keys_of c.args.self.now) ≡ m.keys = ap (λ rows. union [] (keys_of rows)) (sym c.self.view_is ∙ ap rows_in m.is) ∙ keys_once m.field-1 m.keys c.len-few.ensures.distinct in
    (c.in_ok-copied-in-Made.ensures ∙ sym all, subst (λ n. n ≤ tuples_limit) (c.len-few.ensures.value ∙ ap length (sym all)) c.len-few.ensures.few)
