use Rattle.std.proofs.Common.{◌≡◌, ◌+◌, ◌≤◌, take}
use Rattle.net_lex.specs.Places.{column_of}
use Rattle.net_lex.proofs.token.column_after.Given as goal

abbrev pub invariant-loop-b : goal.invariant-loop-b
invariant-loop-b l = (l.column ≡ column_of (take l.b-index l.before)) × (l.column ≤ l.b-index + 1)
