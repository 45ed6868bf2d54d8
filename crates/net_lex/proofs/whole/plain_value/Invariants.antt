use Rattle.std.specs.Prelude.{◌≡◌, ◌≤◌, take}
use Rattle.net_lex.specs.Numerals.{AllDigits, digits_value}
use Rattle.net_lex.proofs.whole.plain_value.Given as goal

abbrev pub invariant-loop-byte : goal.invariant-loop-byte
invariant-loop-byte l = AllDigits (take l.byte-index l.text) × (l.value ≡ digits_value (take l.byte-index l.text)) × (l.value ≤ 1000000000000)
