use Rattle.std.proofs.Common.{sym, ◌∙◌, arith}
use Rattle.std.proofs.lemmas.Grind.{common_steps}
use Rattle.net_normal.proofs.ArcCounts.{head_sized}
use Rattle.net_normal.proofs.node_sums.count_arc.Goals as goal

pub count_tail-requires-clause-sums : goal.count_tail-requires-clause-sums
count_tail-requires-clause-sums c =
    head_sized c.args.profile c.args.arc.now c.args.sums.now.items c.count_head.new.sums.items c.requires.lower c.requires.upper
    (sym c.count_head.new.sums.ok.0 ∙ (c.count_head.ensures.len ∙ c.args.sums.now.ok.0))
    c.requires.sums c.count_head.ensures.value

pub count_head-requires-clause-sums : goal.count_head-requires-clause-sums
count_head-requires-clause-sums c = grind (arith, common_steps)

pub count_tail-requires-clause-tail : goal.count_tail-requires-clause-tail
count_tail-requires-clause-tail c = grind (arith, common_steps)

pub count_head-requires-clause-head : goal.count_head-requires-clause-head
count_head-requires-clause-head c = grind (arith, common_steps)
