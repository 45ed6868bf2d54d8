use Rattle.std.specs.Prelude.{◌≡◌, ◌≤◌, [], List, Ok, Some, length, map}
use Rattle.std.specs.Option.{IfSome}
use Rattle.std.proofs.Common.{ap, sym, subst, ◌∙◌}
use Rattle.net_base.specs.Outcomes.{Outcome}
use Rattle.net_tree.specs.View.{tree}
use Rattle.net_sets.specs.Limits.{tuples_limit}
use Rattle.net_expr.specs.declared.indexing.Indexing.{Indexing}
use Rattle.net_expr.specs.declared.row.Row.{Row}
use Rattle.net_expr.specs.DeclaredRows.{IsFactor}
use Rattle.net_expr.specs.RowLists.{row_of}
use Rattle.net_expr.proofs.DeclaredRows.{one_set_rows}
use Rattle.net_expr.proofs.declared_rows.one_set.Goals as goal

pub returns : goal.returns
returns c = λ o k.
    let w = c.args.env.now in
    let x = tree c.args.item.now in
    let after = c.factor_of.new.names.items in
    let width = c.in-Some.factor.width in
    let set = c.in-Some.factor.set in
    let factor : IsFactor w x [] after width set =
    subst (λ ns. IsFactor w x ns after width set) c.new-names.ensures.items
    (subst (λ o. IfSome o (λ f. IsFactor w x c.new-names.result.items after f.width f.set)) c.in-Some.is c.in_ok-factor.ensures.value) in
    let keys = c.of_set-keys.ensures ∙ c.in_ok-into_shared.ensures in
    let few : length set ≤ tuples_limit = subst (λ n. n ≤ tuples_limit) (c.len-few.ensures.value ∙ ap length keys) c.len-few.ensures.few in
    let rows : c.of_keys.result ≡ map (row_of after) set =
    c.of_keys.ensures ∙ ap (λ ns. map (row_of ns) c.of_set-keys.result) c.new.ensures ∙ ap (map (row_of after)) keys in
    one_set_rows w o k x after width set factor few
    ∙ ap (λ (r : List Row). let i : Indexing = record { count = Some width; rows = r } in let d : Outcome Indexing = Ok i in d) (sym rows)
