use Rattle.std.proofs.Common.{ap, ◌∙◌, arith}
use Rattle.std.proofs.lemmas.Grind.{common_steps}
use Rattle.net_expr.specs.Widths.{makes_set}
use Rattle.net_expr.proofs.Walking.{set_first}
use Rattle.net_expr.proofs.width.begin_set.Goals as goal

pub returns-in-len1-up : goal.returns-in-len1-up
returns-in-len1-up c = c.makes_set.ensures ∙ ap makes_set c.op.ensures ∙ set_first c.args.links.now c.link-item.result c.in-len1-up.len_at_least c.link-item.is

pub returns-in-empty : goal.returns-in-empty
returns-in-empty c = grind (arith, common_steps)

pub bounds-links-0 : goal.bounds-links-0
bounds-links-0 c = grind (arith, common_steps)
