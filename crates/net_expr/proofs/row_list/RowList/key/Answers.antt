use Rattle.std.proofs.Common.{ap, sym, ◌∙◌}
use Rattle.std.specs.Prelude.{[], get_or}
use Rattle.net_expr.specs.Rows.{keys_of}
use Rattle.net_expr.proofs.RowLists.{key_made}
use Rattle.net_expr.specs.RowLists.{rows_in}
use Rattle.net_expr.proofs.row_list.RowList.key.Goals as goal

pub returns-in-Some : goal.returns-in-Some
returns-in-Some c =
    key_made c.in-Made.field-1 c.in-Made.keys c.args.place c.in-Some.key (sym c.in-Some.is ∙ c.get.ensures)
    ∙ ap (λ rows. get_or (keys_of rows) c.args.place []) (sym (sym c.self.view_is ∙ ap rows_in c.in-Made.is))
