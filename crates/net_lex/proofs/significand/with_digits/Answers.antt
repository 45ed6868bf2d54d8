use Rattle.std.proofs.Common.{arith}
use Rattle.std.proofs.lemmas.Grind.{common_steps}
use Rattle.net_lex.proofs.significand.with_digits.Goals as goal

pub returns-clause-value : goal.returns-clause-value
returns-clause-value c = grind (arith, common_steps)

pub loop-byte-preserved : goal.loop-byte-preserved
loop-byte-preserved c = grind (arith, common_steps)
