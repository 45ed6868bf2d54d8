use Rattle.std.proofs.Common.{arith}
use Rattle.std.proofs.lemmas.Grind.{common_steps}
use Rattle.net_lex.proofs.WordReading.{word_tests}
use Rattle.net_lex.proofs.bare_word.is_ascii_word_char.Goals as goal

pub returns-then-is_ascii_alphanumeric : goal.returns-then-is_ascii_alphanumeric
returns-then-is_ascii_alphanumeric c = grind (arith, common_steps, word_tests)

pub returns-in_default-2 : goal.returns-in_default-2
returns-in_default-2 c = grind (arith, common_steps, word_tests)

pub returns-in-95 : goal.returns-in-95
returns-in-95 c = grind (arith, common_steps, word_tests)

pub returns-in_default : goal.returns-in_default
returns-in_default c = grind (arith, common_steps, word_tests)
