use Rattle.std.proofs.Common.{arith}
use Rattle.std.proofs.lemmas.Grind.{common_steps}
use Rattle.net_bind.proofs.set_declaration.with_statement.Goals as goal

pub returns-then-is_given : goal.returns-then-is_given
returns-then-is_given c = grind (arith, common_steps)
