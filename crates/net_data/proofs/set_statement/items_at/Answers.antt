use Rattle.std.proofs.Common.{sym}
use Rattle.net_data.proofs.Items.{items_counted, items_rejected}
use Rattle.net_data.proofs.set_statement.items_at.Goals as goal

pub returns-in-Err-clause-value : goal.returns-in-Err-clause-value
returns-in-Err-clause-value c = sym (items_rejected c.args.tokens.now c.in-Err.stop c.in-Err.ensures.value)

pub returns-in-Ok-clause-value : goal.returns-in-Ok-clause-value
returns-in-Ok-clause-value c =
    let h = items_counted c.args.tokens.now c.in-Ok.len c.in-Ok.ensures.value in
    cc (h, c.new.ensures, c.split_at-items.ensures.front, c.split_at-items.ensures.back)
