use Rattle.std.proofs.Common.{sym, arith}
use Rattle.std.proofs.lemmas.Grind.{common_steps}
use Rattle.net_lex.proofs.NumeralSpelled.{numeral_within}
use Rattle.net_lex.specs.Shapes.{model_front}
use Rattle.net_lex.proofs.model_text.model_front.Goals as goal

pub overflow_sub-result : goal.overflow_sub-result
overflow_sub-result c = numeral_within _ _ _ (sym c.in-Some.ensures)

pub unnamed_front-requires : goal.unnamed_front-requires
unfolding model_front
unnamed_front-requires c = grind (arith, common_steps)

pub returns-in-Some : goal.returns-in-Some
unfolding model_front
returns-in-Some c = grind (arith, common_steps)
