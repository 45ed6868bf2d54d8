use Rattle.net_dimacs.proofs.ReadBack.{problems_back, certificates_back}
use Rattle.net_dimacs.proofs.certificate_reader.written_texts_are_read_back.Goals as goal

pub returns : goal.returns
returns c = record { problems = problems_back; certificates = certificates_back }
