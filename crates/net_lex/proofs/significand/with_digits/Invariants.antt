use Rattle.std.proofs.Common.{◌+◌, ◌≤◌, take}
use Rattle.net_lex.specs.Significands.{with_digits}
use Rattle.net_lex.specs.Saturation.{Follows}
use Rattle.net_lex.proofs.significand.with_digits.Given as goal

abbrev pub invariant-loop-byte : goal.invariant-loop-byte
invariant-loop-byte l = record {
  value : Follows 1000000000001 l.fn.number l.number (λ g. with_digits g (take l.byte-index l.text));
  small : l.number.digits ≤ 1000000000001;
  room : l.number.zeros ≤ l.fn.number.zeros + l.byte-index;
}
