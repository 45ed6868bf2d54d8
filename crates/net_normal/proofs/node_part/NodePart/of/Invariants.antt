use Rattle.net_normal.specs.NodeSums.{AreSumsOf}
use Rattle.net_normal.specs.declared.profile.Profile.{Profile}
use Rattle.net_normal.proofs.NodePasses.{HasServed}
use Rattle.net_normal.proofs.node_part.NodePart.of.Given as goal

abbrev pub invariant-loop-node : goal.invariant-loop-node
invariant-loop-node l = (p : Profile) → AreSumsOf p l.instance.arcs.items l.sums → HasServed p l.instance l.fn.arcs.items l.node l.part
