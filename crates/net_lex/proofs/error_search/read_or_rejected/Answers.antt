use Rattle.net_lex.proofs.FirstFaults.{read_or_rejected}
use Rattle.net_lex.proofs.error_search.read_or_rejected.Goals as goal

pub returns : goal.returns
returns c = record { value = read_or_rejected }
