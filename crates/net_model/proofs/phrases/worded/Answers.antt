use Rattle.std.proofs.Common.{arith}
use Rattle.std.proofs.lemmas.Grind.{common_steps}
use Rattle.net_model.specs.Phrases.{worded}
use Rattle.net_model.proofs.phrases.worded.Goals as goal

pub returns-then-stood_before-clause-value : goal.returns-then-stood_before-clause-value
unfolding worded
returns-then-stood_before-clause-value c = grind (arith, common_steps)

pub returns-in_ok-phrase-in-Some-slot_of-clause-shorter : goal.returns-in_ok-phrase-in-Some-slot_of-clause-shorter
unfolding worded
returns-in_ok-phrase-in-Some-slot_of-clause-shorter c = grind (arith, common_steps)

pub returns-in_ok-phrase-in-Some-slot_of-clause-value : goal.returns-in_ok-phrase-in-Some-slot_of-clause-value
unfolding worded
returns-in_ok-phrase-in-Some-slot_of-clause-value c = grind (arith, common_steps)

pub returns-in_default-clause-value : goal.returns-in_default-clause-value
unfolding worded
returns-in_default-clause-value c = grind (arith, common_steps)

pub returns-in-None-clause-value : goal.returns-in-None-clause-value
unfolding worded
returns-in-None-clause-value c = grind (arith, common_steps)
