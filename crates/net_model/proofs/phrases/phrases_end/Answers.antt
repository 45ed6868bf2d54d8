use Rattle.std.proofs.Common.{arith}
use Rattle.std.proofs.lemmas.Grind.{common_steps}
use Rattle.net_model.specs.Phrases.{phrases_end}
use Rattle.net_model.proofs.phrases.phrases_end.Goals as goal

pub returns-then-matches-clause-shorter : goal.returns-then-matches-clause-shorter
unfolding phrases_end
returns-then-matches-clause-shorter c = grind (arith, common_steps)

pub returns-else-matches-clause-value : goal.returns-else-matches-clause-value
unfolding phrases_end
returns-else-matches-clause-value c = grind (arith)
