use Rattle.std.proofs.Common.{◌≡◌, ◌++◌, length, ap, sym, ◌∙◌, arith}
use Rattle.std.specs.List.{zip}
use Rattle.net_inst.specs.Lists.{Listed, keyed_rows}
use Rattle.net_report.specs.Displays.{blocks}
use Rattle.net_report.proofs.ListedRows.{name_count}
use Rattle.net_report.proofs.DeclaredBlocks.{blocks_same}
use Rattle.net_report.proofs.display.push_blocks.Goals as goal

pub loop-declaration-init : goal.loop-declaration-init
loop-declaration-init c =
    let xs = c.declarations-declaration-items.result.now in
    let numbers = c.args.numbers.now in
    let listed = c.declarations-declaration-items.ensures in
    let count : length numbers ≡ length (keyed_rows 0 xs) = c.requires ∙ ap (λ (l : Listed). length l.keys) listed in
    record {
      text = ap (λ l. c.args.text.now.items ++ l) (sym (ap (λ (l : Listed). blocks 0 l.declarations (zip l.keys numbers)) listed ∙ blocks_same 0 xs numbers (omega (arith, count))));
      count = count ∙ name_count xs;
    }
