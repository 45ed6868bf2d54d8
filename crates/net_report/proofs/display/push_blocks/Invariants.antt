use Rattle.std.proofs.Common.{◌≡◌, ◌++◌, drop, length}
use Rattle.std.specs.List.{flat_map, zip}
use Rattle.net_report.specs.Displays.{blocks}
use Rattle.net_report.specs.References.{names_of}
use Rattle.net_report.proofs.DeclaredBlocks.{declared_blocks}
use Rattle.net_report.proofs.display.push_blocks.Given as goal

abbrev pub invariant-loop-declaration : goal.invariant-loop-declaration
invariant-loop-declaration l = record {
  text : l.text.items ++ declared_blocks (drop l.declaration-index l.declaration-items) l.left ≡ l.fn.text.items ++ blocks 0 l.listed.declarations (zip l.listed.keys l.numbers);
  count : length l.left ≡ length (flat_map names_of (drop l.declaration-index l.declaration-items));
}
