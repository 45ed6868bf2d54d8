use Rattle.std.proofs.Common.{arith}
use Rattle.net_bind.proofs.set_declaration.key_rows.Goals as goal

pub returns : goal.returns
returns c = grind (arith)
