use Rattle.std.proofs.Common.{arith}
use Rattle.std.proofs.lemmas.Grind.{common_steps}
use Rattle.net_model.specs.Phrases.{comma_at}
use Rattle.net_model.proofs.phrases.comma_at.Goals as goal

pub returns-then-next_is-clause-shorter : goal.returns-then-next_is-clause-shorter
unfolding comma_at
returns-then-next_is-clause-shorter c = grind (arith, common_steps)
