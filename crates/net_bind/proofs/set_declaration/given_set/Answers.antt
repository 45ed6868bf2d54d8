use Rattle.std.proofs.Common.{arith}
use Rattle.std.proofs.lemmas.Grind.{common_steps}
use Rattle.net_bind.proofs.set_declaration.given_set.Goals as goal

pub returns : goal.returns
returns c = grind (arith, common_steps)

pub returns-in_err-found : goal.returns-in_err-found
returns-in_err-found c = grind (arith, common_steps)

pub loop-named-preserved : goal.loop-named-preserved
loop-named-preserved c = grind (arith, common_steps)
