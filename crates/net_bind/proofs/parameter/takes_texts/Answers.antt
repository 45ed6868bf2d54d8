use Rattle.std.proofs.Common.{arith}
use Rattle.std.proofs.lemmas.Grind.{common_steps}
use Rattle.net_bind.proofs.parameter.takes_texts.Goals as goal

pub returns-then-is_symbolic : goal.returns-then-is_symbolic
returns-then-is_symbolic c = grind (arith, common_steps)

pub loop-phrase-preserved : goal.loop-phrase-preserved
loop-phrase-preserved c = grind (arith, common_steps)

pub returns : goal.returns
returns c = grind (arith, common_steps)

pub offset_bounds-phrases-phrase-index : goal.offset_bounds-phrases-phrase-index
offset_bounds-phrases-phrase-index c = grind (arith, common_steps)
