use Rattle.std.proofs.Common.{◌≡◌, ◌+◌, ◌≤◌, ◌++◌, List, ℕ, length}
use Rattle.std.specs.Str.Lines.{lines}
use Rattle.net_dimacs.specs.Scans.{reads}
use Rattle.net_dimacs.proofs.Scanning.{IsUnbegun}
use Rattle.net_dimacs.proofs.line_scan.Scan.take_lines.Given as goal

abbrev pub invariant-loop-line : goal.invariant-loop-line
invariant-loop-line l =
    ((more : List (List ℕ)) → reads l.self (lines l.rest ++ more) ≡ reads l.initial.self (lines l.text ++ more))
    × (l.self.line + length l.rest ≤ l.initial.self.line + length l.text)
    × IsUnbegun l.initial.self l.text l.self l.rest

abbrev pub decreases-loop-line : goal.decreases-loop-line
decreases-loop-line l = length l.rest
