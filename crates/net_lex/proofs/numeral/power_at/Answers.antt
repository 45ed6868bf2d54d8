use Rattle.std.proofs.Common.{arith}
use Rattle.std.proofs.lemmas.Grind.{common_steps}
use Rattle.net_lex.specs.NumeralFront.{power_at}
use Rattle.net_lex.proofs.numeral.power_at.Goals as goal

pub returns-then-is_ascii_digit : goal.returns-then-is_ascii_digit
unfolding power_at
returns-then-is_ascii_digit c = grind (arith, common_steps)
