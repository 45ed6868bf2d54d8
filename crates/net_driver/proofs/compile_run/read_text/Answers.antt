use Rattle.std.proofs.Common.{arith}
use Rattle.std.proofs.lemmas.Grind.{common_steps}
use Rattle.net_driver.proofs.compile_run.read_text.Goals as goal

pub returns-in-Err-OutOfMemory-clause-flag : goal.returns-in-Err-OutOfMemory-clause-flag
returns-in-Err-OutOfMemory-clause-flag g c = grind (arith, common_steps)

pub returns-in-Err-OutOfMemory-clause-err : goal.returns-in-Err-OutOfMemory-clause-err
returns-in-Err-OutOfMemory-clause-err g c = grind (arith, common_steps)

pub returns-in-Ok-clause-flag : goal.returns-in-Ok-clause-flag
returns-in-Ok-clause-flag g c = grind (arith, common_steps)

pub returns-in-Err-Failed-clause-err : goal.returns-in-Err-Failed-clause-err
returns-in-Err-Failed-clause-err g c = grind (arith, common_steps)

pub returns-in-Err-Failed-clause-flag : goal.returns-in-Err-Failed-clause-flag
returns-in-Err-Failed-clause-flag g c = grind (arith, common_steps)
