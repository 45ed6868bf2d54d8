use Rattle.net_data.proofs.GroupLemmas.{groups-cons}
use Rattle.net_data.proofs.data_parser.group_by_group.Goals as goal

pub returns-clause-next : goal.returns-clause-next
returns-clause-next c = groups-cons
