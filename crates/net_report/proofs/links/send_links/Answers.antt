use Rattle.std.proofs.Common.{◌≡◌, ◌++◌, List, ℕ, ℤ, ap, ◌∙◌, to_z, of_z, arith}
use Rattle.std.proofs.lemmas.Grind.{common_steps}
use mir.Syntax.{w128}
use Rattle.net_io.proofs.Paging.{sends_both, sends_as}
use Rattle.net_report.specs.Links.{constant_line, node_lines, arc_lines}
use Rattle.net_report.specs.References.{names_in}
use Rattle.net_report.proofs.links.send_links.Goals as goal

pub returns : goal.returns
returns g c =
    let names = c.args.names.now in
    let link = c.args.link.now in
    let after = node_lines 0 (names_in names.nodes) ++ arc_lines link.numbers.items link.offsets.items (names_in names.arcs) in
    let same : to_z w128 (of_z w128 link.constant) ≡ link.constant = grind (arith, common_steps) in
    sends_as
    (ap (λ (z : ℤ). constant_line z ++ (c.sign_line.result.now ++ after)) same ∙ ap (λ (l : List ℕ). constant_line link.constant ++ (l ++ after)) c.sign_line.ensures.value)
    (sends_both c.send_constant.ensures (sends_both c.send.ensures (sends_both c.send_nodes.ensures c.send_arcs.ensures)))
