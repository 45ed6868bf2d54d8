use Rattle.std.proofs.Common.{◌≡◌, ◌<◌, ℕ, pos, ◌++◌, drop, get_or}
use Rattle.net_dimacs.specs.CertificateWritten.{flow_lines, IsAmount}
use Rattle.net_dimacs.proofs.certificate_writer.push_flows.Given as goal

abbrev pub invariant-loop-place : goal.invariant-loop-place
invariant-loop-place l =
    (l.text.items ++ flow_lines (drop l.place l.arcs) (drop l.place l.flows) ≡ l.fn.text.items ++ flow_lines l.arcs l.flows)
    × ((k : ℕ) → k < l.place → IsAmount (get_or l.flows k (pos 0)))
