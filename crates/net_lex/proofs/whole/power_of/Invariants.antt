use Rattle.std.proofs.Common.{◌≡◌, min, take}
use Rattle.net_lex.specs.Numerals.{digits_value}
use Rattle.net_lex.proofs.whole.power_of.Given as goal

abbrev pub invariant-loop-byte : goal.invariant-loop-byte
invariant-loop-byte l = l.power ≡ min (digits_value (take l.byte-index l.digits)) 0x1_0000_0000_0000_0000_0000
