use Rattle.std.proofs.Common.{◌≡◌, ◌<◌, ℕ, pos, ◌++◌, drop, get_or}
use Rattle.net_dimacs.specs.CertificateWritten.{potential_lines, IsAmount}
use Rattle.net_dimacs.proofs.certificate_writer.push_potentials.Given as goal

abbrev pub invariant-loop-node : goal.invariant-loop-node
invariant-loop-node l =
    (l.text.items ++ potential_lines l.node (drop l.node l.potentials) ≡ l.fn.text.items ++ potential_lines 0 l.potentials)
    × ((k : ℕ) → k < l.node → IsAmount (get_or l.potentials k (pos 0)))
