use Rattle.std.proofs.Common.{sym, ◌∙◌, true, false, arith}
use Rattle.std.proofs.lemmas.Grind.{common_steps}
use Rattle.net_tree.proofs.Items.{one_link, many_links}
use Rattle.net_tree.proofs.item.after_in.Goals as goal

pub returns-then-is_in : goal.returns-then-is_in
returns-then-is_in c = one_link c.args.links.now c.link-item.result true c.in-len1.len_at_least c.in-len1.len_below c.link-item.is (sym c.is_in.ensures ∙ c.if-is_in.true)

pub returns-else-is_in : goal.returns-else-is_in
returns-else-is_in c = one_link c.args.links.now c.link-item.result false c.in-len1.len_at_least c.in-len1.len_below c.link-item.is (sym c.is_in.ensures ∙ c.if-is_in.false)

pub returns-in-len2-up : goal.returns-in-len2-up
returns-in-len2-up c = many_links c.args.links.now c.in-len2-up.len_at_least

pub bounds-links-0 : goal.bounds-links-0
bounds-links-0 c = grind (arith, common_steps)

pub returns-in-empty : goal.returns-in-empty
returns-in-empty c = grind (arith, common_steps)
