use Rattle.net_data.proofs.GroupLemmas.{set_rows-cons}
use Rattle.net_data.proofs.data_parser.set_row_by_row.Goals as goal

pub returns-clause-next : goal.returns-clause-next
returns-clause-next c = set_rows-cons
