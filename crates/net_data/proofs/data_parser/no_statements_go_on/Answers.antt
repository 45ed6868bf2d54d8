use Rattle.net_data.proofs.FirstWrong.{none_go_on, all_begin}
use Rattle.net_data.proofs.data_parser.no_statements_go_on.Goals as goal

pub returns : goal.returns
returns c = record { value = none_go_on; at_end = all_begin }
