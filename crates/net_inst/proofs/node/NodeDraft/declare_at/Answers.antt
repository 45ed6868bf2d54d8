use Rattle.std.proofs.Common.{arith}
use Rattle.std.proofs.lemmas.Grind.{common_steps}
use Rattle.net_inst.proofs.node.NodeDraft.declare_at.Goals as goal

pub push_ranges-requires : goal.push_ranges-requires
push_ranges-requires c = grind (arith, common_steps)

pub declare-requires : goal.declare-requires
declare-requires c = grind (arith, common_steps)

pub returns : goal.returns
returns c = grind (arith, common_steps)
