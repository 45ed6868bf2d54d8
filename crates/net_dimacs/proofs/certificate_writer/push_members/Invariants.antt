use Rattle.std.proofs.Common.{◌≡◌, ◌++◌, drop}
use Rattle.net_dimacs.specs.CertificateWritten.{member_lines}
use Rattle.net_dimacs.proofs.certificate_writer.push_members.Given as goal

abbrev pub invariant-loop-node : goal.invariant-loop-node
invariant-loop-node l = l.text.items ++ member_lines l.node (drop l.node l.flags) ≡ l.fn.text.items ++ member_lines 0 l.flags
