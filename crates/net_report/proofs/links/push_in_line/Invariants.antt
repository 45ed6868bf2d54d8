use Rattle.std.proofs.Common.{◌≡◌, ◌++◌, length, string_bytes}
use denote.Text.{Utf8}
use denote.Shadow.{shadow}
use Rattle.net_report.specs.Links.{in_line}
use Rattle.net_report.proofs.links.push_in_line.Given as goal

abbrev pub invariant-loop-before : goal.invariant-loop-before
invariant-loop-before l = shadow (Utf8 l.left) × (string_bytes l.line ++ in_line l.left ≡ string_bytes l.fn.line ++ in_line l.fn.text)

abbrev pub decreases-loop-before : goal.decreases-loop-before
decreases-loop-before l = length l.left
