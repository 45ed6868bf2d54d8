use Rattle.std.proofs.Common.{◌++◌, ◌∷◌, [], Bool, List, ℕ, ap, ◌∙◌}
use Rattle.net_inst.specs.declared.network_names.DeclaredRows.{DeclaredRows}
use Rattle.net_inst.specs.Lists.{Listed, listed_rows, listed_with}
use Rattle.net_inst.proofs.KeyedRows.{listed_on}
use Rattle.net_inst.proofs.network_names.NameList.declare.Goals as goal

pub returns : goal.returns
returns c =
    let old = c.self.inside.declarations.items in
    let one : List ℕ → Bool → DeclaredRows = λ name indexed. record { declared = record { name = name; indexed = indexed }; rows = c.args.rows } in
    ap listed_rows c.in_ok-push.ensures.items
    ∙ ap (λ (name : List ℕ). listed_rows (old ++ one name c.is_some.result ∷ [])) c.copied.ensures
    ∙ ap (λ (indexed : Bool). listed_rows (old ++ one c.args.name.now indexed ∷ [])) c.is_some.ensures
    ∙ listed_on old c.args.name.now c.args.count c.args.rows
    ∙ ap (λ (l : Listed). listed_with l c.args.name.now c.args.count c.args.rows) c.self.view_is
