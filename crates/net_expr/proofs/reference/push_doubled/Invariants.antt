use Rattle.std.proofs.Common.{◌≡◌, ◌++◌, length, string_bytes}
use denote.Text.{Utf8}
use denote.Shadow.{shadow}
use Rattle.net_expr.specs.References.{doubled}
use Rattle.net_expr.proofs.reference.push_doubled.Given as goal

abbrev pub invariant-loop-before : goal.invariant-loop-before
invariant-loop-before l = shadow (Utf8 l.left) × (string_bytes l.out ++ doubled l.left ≡ string_bytes l.fn.out ++ doubled l.fn.text)

abbrev pub decreases-loop-before : goal.decreases-loop-before
decreases-loop-before l = length l.left
