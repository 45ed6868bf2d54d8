use Rattle.std.proofs.Common.{◌+◌, ◌<◌, length, drop, Some, arith}
use Rattle.net_io.proofs.Paging.{step}
use Rattle.net_report.specs.Links.{node_line, node_lines}
use Rattle.net_report.specs.References.{declared_name, names_of}
use Rattle.net_report.proofs.ListedRows.{names_next, node_at}
use Rattle.net_report.proofs.links.send_declared_nodes.Goals as goal

pub loop-place-preserved : goal.loop-place-preserved
loop-place-preserved g c =
    let x = c.args.declaration.now in
    let count = c.args.count in
    let k = c.loop-place.place in
    let key = c.key-key.result in
    let inside : k < length x.rows = omega (arith, c.loop-place-test.true, c.len-place-end.ensures) in
    step (node_line (count + k + 1) (declared_name (Some x.declared) key)) (node_lines (count + (k + 1)) (drop (k + 1) (names_of x)))
    (node_at count k (names_of x) (declared_name (Some x.declared) key) (names_next x k key inside c.key-key.ensures)) c.loop-place.invariant c.send_node.ensures
