use Rattle.std.proofs.Common.{arith}
use Rattle.net_inst.proofs.node.NodeDraft.declare.Goals as goal

pub returns : goal.returns
returns c = grind (arith)
