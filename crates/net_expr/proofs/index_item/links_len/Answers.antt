use Rattle.std.proofs.Common.{sym}
use Rattle.net_expr.proofs.Walking.{size-links}
use Rattle.net_expr.proofs.index_item.links_len.Goals as goal

pub returns : goal.returns
returns c = sym (size-links c.args.links.now)
