use Rattle.std.proofs.Common.{◌≡◌, ◌≤◌, ◌++◌, drop, length}
use Rattle.std.specs.List.{flat_map}
use Rattle.net_report.specs.Cuts.{node_lines}
use Rattle.net_report.specs.References.{names_in, names_of}
use Rattle.net_report.proofs.cut_text.push_nodes.Given as goal

abbrev pub invariant-loop-declaration : goal.invariant-loop-declaration
invariant-loop-declaration l = record {
  text : l.text.items ++ node_lines l.left (flat_map names_of (drop l.declaration-index l.declaration-items)) ≡ l.fn.text.items ++ node_lines l.flags (names_in l.nodes);
  count : length (flat_map names_of (drop l.declaration-index l.declaration-items)) ≤ length l.left;
}
