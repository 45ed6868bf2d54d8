use Rattle.net_dimacs.proofs.DigitFronts.{HasDigits}
use Rattle.net_dimacs.proofs.number_field.leading_digits.Given as goal

abbrev pub invariant-loop-count : goal.invariant-loop-count
invariant-loop-count l = HasDigits l.bytes l.count l.size
