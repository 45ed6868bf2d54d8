use Rattle.net_data.proofs.Promise.{one_meaning}
use Rattle.net_data.proofs.data_parser.one_meaning.Goals as goal

pub returns : goal.returns
returns c = record { value = one_meaning }
