use Rattle.net_data.proofs.FirstWrong.{answer_rejected}
use Rattle.net_data.proofs.Promise.{answer_means, answer_full, answer_complete}
use Rattle.net_data.proofs.data_parser.parse_data.Goals as goal

pub returns-clause-ok : goal.returns-clause-ok
returns-clause-ok c = answer_means c.end_of.result c.args.tokens.now c.tables.result c.tables.ensures

pub returns-clause-full : goal.returns-clause-full
returns-clause-full c = answer_full c.end_of.result c.args.tokens.now c.tables.result c.tables.ensures

pub returns-clause-rejected : goal.returns-clause-rejected
returns-clause-rejected c = answer_rejected c.args.tokens.now c.tables.result (rw c.end_of.ensures at c.tables.ensures)

pub returns-clause-complete : goal.returns-clause-complete
returns-clause-complete c = rw c.end_of.ensures at (answer_complete c.end_of.result c.args.tokens.now c.tables.result c.tables.ensures)
