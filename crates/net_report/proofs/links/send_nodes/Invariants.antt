use Rattle.std.proofs.Common.{◌≤◌, ◌*◌, drop}
use Rattle.std.specs.List.{flat_map}
use Rattle.net_io.proofs.Paging.{IsPartlySentTo}
use Rattle.net_report.specs.References.{names_in, names_of}
use Rattle.net_report.specs.Links.{node_lines}
use Rattle.net_report.proofs.links.send_nodes.Given as goal

abbrev pub invariant-loop-declaration : goal.invariant-loop-declaration
invariant-loop-declaration g l = record {
  sent : IsPartlySentTo g.W.Sink.taken g.W.Sink.failed l.fn.sink l.sink l.fn.page l.page
      (node_lines l.count (flat_map names_of (drop l.declaration-index l.declaration-items))) (node_lines 0 (names_in l.fn.nodes));
  few : l.count ≤ l.declaration-index * 18446744073709551615;
}
