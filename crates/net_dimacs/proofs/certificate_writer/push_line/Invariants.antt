use Rattle.std.proofs.Common.{◌≡◌, ◌++◌, drop}
use Rattle.net_dimacs.specs.Written.{row}
use Rattle.net_dimacs.proofs.certificate_writer.push_line.Given as goal

abbrev pub invariant-loop-number : goal.invariant-loop-number
invariant-loop-number l = l.text.items ++ row (drop l.number-index l.numbers) ≡ l.fn.text.items ++ (l.kind ++ row l.numbers)
