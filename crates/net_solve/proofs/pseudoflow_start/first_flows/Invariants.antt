use Rattle.std.proofs.Common.{◌≡◌, ℕ, ◌<◌, vec_len}
use Rattle.net_normal.specs.Flows.{IsWithinCapacity}
use Rattle.net_check.specs.Certificates.{IsComplementary}
use Rattle.net_solve.proofs.SlackScanning.{At}
use Rattle.net_solve.proofs.pseudoflow_start.first_flows.Given as goal

abbrev pub invariant-loop-index : goal.invariant-loop-index
invariant-loop-index l =
    record {
      count : vec_len l.flows ≡ l.index;
      capacity : (k : ℕ) → k < l.index → At IsWithinCapacity l.problem.arcs.items l.flows.items k;
      slackness : (k : ℕ) → k < l.index → At (IsComplementary l.potentials) l.problem.arcs.items l.flows.items k;
    }
