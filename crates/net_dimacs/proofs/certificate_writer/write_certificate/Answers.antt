use Rattle.net_dimacs.proofs.CertificateWriteLaws.{written_ok, written_only}
use Rattle.net_dimacs.proofs.certificate_writer.write_certificate.Goals as goal

pub returns-clause-ok : goal.returns-clause-ok
returns-clause-ok c = written_ok c.args.problem.now c.args.certificate.now c.write_whole_certificate.result c.requires c.write_whole_certificate.ensures.value c.write_whole_certificate.ensures.fits

pub returns-clause-only : goal.returns-clause-only
returns-clause-only c = written_only c.args.problem.now c.args.certificate.now c.write_whole_certificate.result c.requires c.write_whole_certificate.ensures.value c.write_whole_certificate.ensures.fits
