use Rattle.std.proofs.Common.{arith}
use Rattle.std.proofs.lemmas.Grind.{common_steps}
use Rattle.net_inst.specs.Drafts.{sense_of}
use Rattle.net_inst.proofs.draft.sense_of.Goals as goal

pub returns-in_default : goal.returns-in_default
unfolding sense_of
returns-in_default c = grind (arith, common_steps)
