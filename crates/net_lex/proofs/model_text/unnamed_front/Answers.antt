use Rattle.std.proofs.Common.{arith}
use Rattle.std.proofs.lemmas.Grind.{common_steps}
use Rattle.net_lex.proofs.model_text.unnamed_front.Goals as goal

pub string_at-requires : goal.string_at-requires
string_at-requires c = grind (arith, common_steps)
