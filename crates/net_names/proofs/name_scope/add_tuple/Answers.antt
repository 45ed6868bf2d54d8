use Rattle.std.proofs.Common.{arith}
use Rattle.std.proofs.lemmas.Grind.{common_steps}
use Rattle.net_names.proofs.name_scope.add_tuple.Goals as goal

pub returns : goal.returns
returns c = grind (arith, common_steps)
