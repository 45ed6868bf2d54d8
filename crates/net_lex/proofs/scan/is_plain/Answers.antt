use Rattle.std.proofs.Common.{arith}
use Rattle.std.proofs.lemmas.Grind.{common_steps}
use Rattle.net_lex.proofs.ShortNumerals.{plain_word}
use Rattle.net_lex.proofs.scan.is_plain.Goals as goal

pub returns : goal.returns
returns c = grind (arith, common_steps, plain_word c.args.word.now)
