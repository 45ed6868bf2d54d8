use Rattle.net_lex.proofs.FirstFaults.{one_first_fault}
use Rattle.net_lex.proofs.error_search.one_first_fault.Goals as goal

pub returns : goal.returns
returns c = record { value = one_first_fault }
