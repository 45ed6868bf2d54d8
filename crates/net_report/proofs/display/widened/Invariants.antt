use Rattle.std.proofs.Common.{◌≡◌, ◌++◌, drop}
use Rattle.net_report.proofs.display.widened.Given as goal

abbrev pub invariant-loop-number : goal.invariant-loop-number
invariant-loop-number l = l.widened.items ++ drop l.number-index l.numbers ≡ l.numbers
