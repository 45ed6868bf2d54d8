use Rattle.std.proofs.Common.{◌≡◌, min, take}
use Rattle.net_lex.specs.Numerals.{digits_value}
use Rattle.net_lex.proofs.whole.saturated_value.Given as goal

abbrev pub invariant-loop-byte : goal.invariant-loop-byte
invariant-loop-byte l = l.value ≡ min (digits_value (take l.byte-index l.digits)) 1000000000001
