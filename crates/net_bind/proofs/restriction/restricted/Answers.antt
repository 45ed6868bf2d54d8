use Rattle.std.proofs.Common.{arith}
use Rattle.std.proofs.lemmas.Grind.{common_steps}
use Rattle.net_bind.proofs.restriction.restricted.Goals as goal

pub returns : goal.returns
returns c = grind (arith, common_steps)

pub offset_bounds-phrases-phrase-index : goal.offset_bounds-phrases-phrase-index
offset_bounds-phrases-phrase-index c = grind (arith, common_steps)

pub loop-phrase-preserved : goal.loop-phrase-preserved
loop-phrase-preserved c = grind (arith, common_steps)

pub returns-in_err-restricted_in : goal.returns-in_err-restricted_in
returns-in_err-restricted_in c = grind (arith, common_steps)
