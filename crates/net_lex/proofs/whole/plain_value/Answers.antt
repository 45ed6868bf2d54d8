use Rattle.std.specs.Prelude.{◌+◌, take}
use Rattle.std.proofs.Common.{arith}
use Rattle.std.proofs.lemmas.Grind.{common_steps}
use Rattle.net_lex.proofs.ShortNumerals.{digits_small}
use Rattle.net_lex.proofs.whole.plain_value.Goals as goal

pub loop-byte-preserved : goal.loop-byte-preserved
loop-byte-preserved c = grind (arith, common_steps, digits_small (take (c.loop-byte.byte-index + 1) c.args.text.now))
