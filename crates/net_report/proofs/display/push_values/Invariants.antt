use Rattle.std.proofs.Common.{◌≡◌, ◌++◌, drop}
use Rattle.std.specs.List.{flat_map}
use Rattle.net_report.specs.Displays.{value_line}
use Rattle.net_report.proofs.display.push_values.Given as goal

abbrev pub invariant-loop-number : goal.invariant-loop-number
invariant-loop-number l =
    l.text.items ++ flat_map (value_line l.name) (drop l.number-index l.numbers) ≡ l.fn.text.items ++ flat_map (value_line l.name) l.numbers
