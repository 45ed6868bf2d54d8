use Rattle.std.specs.List.{prefix_len}
use Rattle.net_data.specs.Tests.{is_comma}
use Rattle.net_data.proofs.Fronts.{front_split, front_shorter}
use Rattle.net_data.proofs.next_token.front.Goals as goal

pub returns-clause-value : goal.returns-clause-value
returns-clause-value c = front_split c.args.tokens.now c.after_commas.result c.split_first.result c.after_commas.ensures c.split_first.ensures

pub returns-clause-shorter : goal.returns-clause-shorter
returns-clause-shorter c = front_shorter (prefix_len is_comma c.args.tokens.now) c.args.tokens.now c.after_commas.result c.split_first.result c.after_commas.ensures c.split_first.ensures
