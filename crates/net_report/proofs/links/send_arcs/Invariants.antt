use Rattle.std.proofs.Common.{◌≡◌, drop, length}
use Rattle.std.specs.List.{flat_map}
use Rattle.net_io.proofs.Paging.{IsPartlySentTo}
use Rattle.net_report.specs.References.{names_in, names_of}
use Rattle.net_report.specs.Links.{arc_lines}
use Rattle.net_report.proofs.links.send_arcs.Given as goal

abbrev pub invariant-loop-declaration : goal.invariant-loop-declaration
invariant-loop-declaration g l = record {
  sent : IsPartlySentTo g.W.Sink.taken g.W.Sink.failed l.fn.sink l.sink l.fn.page l.page
      (arc_lines l.numbers l.offsets (flat_map names_of (drop l.declaration-index l.declaration-items))) (arc_lines l.link.numbers.items l.link.offsets.items (names_in l.fn.arcs));
  numbers : length l.numbers ≡ length (flat_map names_of (drop l.declaration-index l.declaration-items));
  offsets : length l.offsets ≡ length (flat_map names_of (drop l.declaration-index l.declaration-items));
}
