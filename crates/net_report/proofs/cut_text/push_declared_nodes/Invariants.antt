use Rattle.std.proofs.Common.{◌≡◌, ◌++◌, drop}
use Rattle.net_report.specs.Cuts.{node_lines}
use Rattle.net_report.specs.References.{names_of}
use Rattle.net_report.proofs.cut_text.push_declared_nodes.Given as goal

abbrev pub invariant-loop-place : goal.invariant-loop-place
invariant-loop-place l =
    l.text.items ++ node_lines (drop l.place l.flags) (drop l.place (names_of l.declaration)) ≡ l.fn.text.items ++ node_lines l.flags (names_of l.declaration)
