use Rattle.std.proofs.Common.{◌++◌, ap, ◌∙◌}
use Rattle.std.specs.List.{flat_map}
use Rattle.net_io.proofs.Paging.{sends_both, sends_as}
use Rattle.net_dimacs.specs.Written.{head_line, node_lines, arc_line}
use Rattle.net_dimacs.proofs.problem_writer.send_problem.Goals as goal

pub returns : goal.returns
returns g c =
    let problem = c.args.problem.now in
    let head = head_line problem.supplies.items problem.arcs.items in
    sends_as
    (ap (λ l. head ++ (node_lines 0 l ++ flat_map arc_line c.deref-2.result.now)) c.deref.ensures.value ∙ ap (λ l. head ++ (node_lines 0 problem.supplies.items ++ flat_map arc_line l)) c.deref-2.ensures.value)
    (sends_both c.send_head.ensures (sends_both c.send_nodes.ensures c.send_arcs.ensures))
