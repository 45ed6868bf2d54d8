use Rattle.std.proofs.Common.{ℕ, ◌<◌}
use Rattle.net_check.specs.Certificates.{IsComplementary}
use Rattle.net_check.specs.FirstFaults.{ArcKeeps}
use Rattle.net_check.proofs.slackness.check_slackness.Given as goal

abbrev pub invariant-loop-index : goal.invariant-loop-index
invariant-loop-index l = (k : ℕ) → k < l.index → ArcKeeps (IsComplementary l.potentials) l.arcs l.flows k
