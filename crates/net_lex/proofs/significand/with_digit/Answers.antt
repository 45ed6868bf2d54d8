use Rattle.std.proofs.Common.{arith}
use Rattle.std.proofs.lemmas.Grind.{common_steps}
use Rattle.net_lex.proofs.significand.with_digit.Goals as goal

pub returns-else-byte-eq48-clause-value : goal.returns-else-byte-eq48-clause-value
returns-else-byte-eq48-clause-value c = grind (arith, common_steps)
