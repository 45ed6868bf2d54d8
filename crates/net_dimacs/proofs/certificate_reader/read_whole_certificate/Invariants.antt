use Rattle.std.proofs.Common.{◌≡◌, ◌+◌, ◌≤◌, length}
use Rattle.std.specs.Prelude.{filter_map}
use Rattle.std.specs.Str.Lines.{lines}
use Rattle.net_dimacs.specs.Limits.{text_limit}
use Rattle.net_dimacs.specs.Claims.{claimed}
use Rattle.net_dimacs.specs.Certificates.{claims_of}
use Rattle.net_dimacs.specs.CertificateReading.{Start, read_lines}
use Rattle.net_dimacs.specs.CertificateDrafts.{progress_of}
use Rattle.net_dimacs.proofs.CertificateReadLaws.{IsBegun}
use Rattle.net_dimacs.proofs.certificate_reader.read_whole_certificate.Given as goal

abbrev pub invariant-loop-line : goal.invariant-loop-line
invariant-loop-line l =
    (read_lines (length l.problem.supplies.items) l.problem.arcs.items l.number (progress_of l.certificate) (lines l.rest) ≡ read_lines (length l.problem.supplies.items) l.problem.arcs.items 1 Start (lines l.text))
    × (l.number + length l.rest ≤ length l.text + 1)
    × (length l.text ≤ text_limit)
    × IsBegun (claims_of l.text) (filter_map claimed (lines l.rest)) l.certificate

abbrev pub decreases-loop-line : goal.decreases-loop-line
decreases-loop-line l = length l.rest
