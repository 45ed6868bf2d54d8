use Rattle.std.proofs.Common.{arith}
use Rattle.std.proofs.lemmas.Grind.{common_steps}
use Rattle.net_data.specs.Reading.{met}
use Rattle.net_data.proofs.next_token.met.Goals as goal

pub returns-then-is_of-clause-shorter : goal.returns-then-is_of-clause-shorter
unfolding met
returns-then-is_of-clause-shorter c = grind (arith, common_steps)
