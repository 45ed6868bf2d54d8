use Rattle.std.proofs.Common.{length, sym, arith}
use Rattle.std.proofs.lemmas.Grind.{common_steps}
use Rattle.std.specs.Str.Lines.{lines}
use Rattle.net_dimacs.specs.CertificateDrafts.{progress_of}
use Rattle.net_dimacs.proofs.CertificateReadLaws.{is_stopped}
use Rattle.net_dimacs.proofs.certificate_reader.read_whole_certificate.Goals as goal

pub returns-in-Err-clause-value : goal.returns-in-Err-clause-value
returns-in-Err-clause-value c =
    is_stopped (length c.args.problem.now.supplies.items) c.args.problem.now.arcs.items c.args.text.now c.loop-line.number (progress_of c.loop-line.certificate)
    (lines c.loop-line.rest.now) (lines c.in-Some.after.now) c.in-Some.line.now c.in-Some-claim_of.claim c.in-Err.fault
    c.loop-line.invariant.2 c.loop-line.invariant.0 c.in-Some.ensures.parts (sym c.in-Some-claim_of.ensures) c.in-Err.ensures

pub returns-in-None-clause-memory : goal.returns-in-None-clause-memory
returns-in-None-clause-memory c = grind (arith, common_steps)

pub returns-in-Some-certificate-clause-value : goal.returns-in-Some-certificate-clause-value
returns-in-Some-certificate-clause-value c = grind (arith, common_steps)

pub returns-then-text-gt-TEXT_LIMIT-clause-value : goal.returns-then-text-gt-TEXT_LIMIT-clause-value
returns-then-text-gt-TEXT_LIMIT-clause-value c = grind (arith, common_steps)

pub returns-in-Some-certificate-clause-memory : goal.returns-in-Some-certificate-clause-memory
returns-in-Some-certificate-clause-memory c = grind (arith, common_steps)

pub returns-in-None-clause-value : goal.returns-in-None-clause-value
returns-in-None-clause-value c = grind (arith, common_steps)

pub returns-then-text-gt-TEXT_LIMIT-clause-memory : goal.returns-then-text-gt-TEXT_LIMIT-clause-memory
returns-then-text-gt-TEXT_LIMIT-clause-memory c = grind (arith, common_steps)

pub returns-in-Err-clause-memory : goal.returns-in-Err-clause-memory
returns-in-Err-clause-memory c = grind (arith, common_steps)
