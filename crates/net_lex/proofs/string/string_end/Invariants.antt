use Rattle.std.proofs.Common.{◌≡◌, false, drop}
use Rattle.net_lex.specs.Shapes.{string_end}
use Rattle.net_lex.proofs.string.string_end.Given as goal

abbrev pub invariant-loop-at : goal.invariant-loop-at
invariant-loop-at l = string_end l.delimiter l.delimited l.at (drop l.at l.inside) ≡ string_end l.delimiter false 0 l.inside
