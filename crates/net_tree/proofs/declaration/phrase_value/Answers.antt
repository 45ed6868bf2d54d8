use Rattle.std.proofs.Common.{arith}
use Rattle.std.proofs.lemmas.Grind.{common_steps}
use Rattle.net_tree.proofs.declaration.phrase_value.Goals as goal

pub loop-phrase-preserved : goal.loop-phrase-preserved
loop-phrase-preserved c = grind (arith, common_steps)

pub returns : goal.returns
returns c = grind (arith, common_steps)

pub returns-then-is_word : goal.returns-then-is_word
returns-then-is_word c = grind (arith, common_steps)

pub offset_bounds-phrases-phrase-index : goal.offset_bounds-phrases-phrase-index
offset_bounds-phrases-phrase-index c = grind (arith, common_steps)
