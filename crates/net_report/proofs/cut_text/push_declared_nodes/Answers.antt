use Rattle.std.proofs.Common.{◌+◌, ◌<◌, ◌++◌, [], List, ℕ, length, drop, get_or, Some, refl, ap, ◌∙◌, arith}
use Rattle.net_expr.specs.Rows.{keys_of}
use Rattle.net_report.specs.Cuts as cuts
use Rattle.net_report.specs.Cuts.{node_lines}
use Rattle.net_report.specs.References.{declared_name, names_of}
use Rattle.net_report.proofs.ListedRows.{names_next, cut_in, cut_out}
use Rattle.net_report.proofs.cut_text.push_declared_nodes.Goals.{then-flags-place+in_ok-push_node, else-flags-place}
use Rattle.net_report.proofs.cut_text.push_declared_nodes.Goals as goal

pub loop-place-preserved : goal.loop-place-preserved
loop-place-preserved c =
    let x = c.args.declaration.now in
    let flags = c.args.flags.now in
    let k = c.loop-place.place in
    let key = get_or (keys_of x.rows) k [] in
    let name = declared_name (Some x.declared) key in
    let inside : k < length x.rows = omega (arith, c.loop-place-test.true, c.len-place-end.ensures) in
    let next = names_next x k key inside refl in
    let fits : k < length flags = omega (arith, inside, c.requires) in
    let left = node_lines (drop (k + 1) flags) (drop (k + 1) (names_of x)) in
    elim c.if-flags-place.branch [
      | then-flags-place+in_ok-push_node w ↦
          ap (λ (l : List ℕ). l ++ left) (ap (λ v. v.items) w.text-is ∙ w.in_ok-push_node.ensures.ok ∙ ap (λ t. c.loop-place.text.items ++ cuts.node_line (declared_name (Some x.declared) t)) w.key-key.ensures)
          ∙ cut_in flags (names_of x) k name c.loop-place.text.items fits next w.if-flags-place.true ∙ c.loop-place.invariant
      | else-flags-place w ↦
          ap (λ (l : List ℕ). l ++ left) (ap (λ v. v.items) w.text-is) ∙ cut_out flags (names_of x) k name c.loop-place.text.items fits next w.if-flags-place.false ∙ c.loop-place.invariant
    ]
