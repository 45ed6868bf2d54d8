use Rattle.std.proofs.Common.{◌≡◌, ◌-◌, ◌^◌, drop}
use Rattle.net_dimacs.specs.Numerals.{size_after}
use Rattle.net_dimacs.proofs.integer.long_size_of.Given as goal

abbrev pub invariant-loop-digit : goal.invariant-loop-digit
invariant-loop-digit l = size_after (2 ^ 128 - 1) l.size (drop l.digit-index l.digits) ≡ size_after (2 ^ 128 - 1) 0 l.digits
