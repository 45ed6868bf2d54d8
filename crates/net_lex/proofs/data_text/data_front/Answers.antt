use Rattle.std.proofs.Common.{arith}
use Rattle.std.proofs.lemmas.Grind.{common_steps}
use Rattle.net_lex.specs.Shapes.{data_front}
use Rattle.net_lex.proofs.data_text.data_front.Goals as goal

pub string_at-requires : goal.string_at-requires
unfolding data_front
string_at-requires c = grind (arith, common_steps)
