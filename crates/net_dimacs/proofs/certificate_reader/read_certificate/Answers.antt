use Rattle.std.proofs.Common.{length}
use Rattle.net_dimacs.proofs.CertificateReadLaws.{is_found, is_only, is_shaped, is_rejected, is_placed}
use Rattle.net_dimacs.proofs.certificate_reader.read_certificate.Goals as goal

pub returns-clause-ok : goal.returns-clause-ok
returns-clause-ok c = is_found c.args.text.now (length c.args.problem.now.supplies.items) c.args.problem.now.arcs.items c.read_whole_certificate.result c.read_whole_certificate.ensures.value

pub returns-clause-only : goal.returns-clause-only
returns-clause-only c = is_only c.args.text.now (length c.args.problem.now.supplies.items) c.args.problem.now.arcs.items c.read_whole_certificate.result c.read_whole_certificate.ensures.value

pub returns-clause-shape : goal.returns-clause-shape
returns-clause-shape c = is_shaped c.args.text.now c.args.problem.now c.read_whole_certificate.result c.read_whole_certificate.ensures.value

pub returns-clause-rejected : goal.returns-clause-rejected
returns-clause-rejected c = is_rejected c.args.text.now (length c.args.problem.now.supplies.items) c.args.problem.now.arcs.items c.read_whole_certificate.result c.read_whole_certificate.ensures.value

pub returns-clause-place : goal.returns-clause-place
returns-clause-place c = is_placed c.args.text.now (length c.args.problem.now.supplies.items) c.args.problem.now.arcs.items c.read_whole_certificate.result c.read_whole_certificate.ensures.value
