use Rattle.std.proofs.Common.{◌∙◌, arith}
use Rattle.std.proofs.lemmas.Grind.{common_steps}
use Rattle.net_expr.proofs.Walking.{range_first}
use Rattle.net_expr.proofs.index_item.begins_range.Goals as goal

pub returns-in-len1-up : goal.returns-in-len1-up
returns-in-len1-up c = c.is_range.ensures ∙ range_first c.args.links.now c.link-item.result c.in-len1-up.len_at_least c.link-item.is

pub bounds-links-0 : goal.bounds-links-0
bounds-links-0 c = grind (arith, common_steps)

pub returns-in-empty : goal.returns-in-empty
returns-in-empty c = grind (arith, common_steps)
