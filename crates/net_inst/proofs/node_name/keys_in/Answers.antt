use Rattle.std.proofs.Common.{arith}
use Rattle.std.proofs.lemmas.Grind.{common_steps}
use Rattle.std.proofs.lemmas.List.{length-map}
use Rattle.std.specs.Prelude.{[]}
use Rattle.net_sets.proofs.Crossing.{no_longer}
use Rattle.net_expr.specs.declared.row.Row.{Row}
use Rattle.net_expr.specs.Rows.{keys_of}
use Rattle.net_inst.proofs.node_name.keys_in.Goals as goal

pub unreachable-requires : goal.unreachable-requires
unreachable-requires c =
    let few = no_longer [] (keys_of c.args.rows.now) in
    let same = length-map c.args.rows.now (λ (row : Row). row.key) in
    grind (arith, common_steps, few, same)
