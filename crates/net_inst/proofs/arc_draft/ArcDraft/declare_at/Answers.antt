use Rattle.std.proofs.Common.{arith}
use Rattle.std.proofs.lemmas.Grind.{common_steps}
use Rattle.net_inst.proofs.arc_draft.ArcDraft.declare_at.Goals as goal

pub declare_name-requires : goal.declare_name-requires
declare_name-requires c = grind (arith, common_steps)

pub returns : goal.returns
returns c = grind (arith, common_steps)
