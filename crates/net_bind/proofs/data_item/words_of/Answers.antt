use Rattle.std.proofs.Common.{rules, arith}
use Rattle.std.proofs.lemmas.Grind.{common_steps}
use Rattle.net_bind.proofs.Items.{words_next, words_over}
use Rattle.net_bind.proofs.data_item.words_of.Goals as goal

pub loop-item-preserved : goal.loop-item-preserved
loop-item-preserved c = search (rules, words_next c.loop-item.invariant.0 c.loop-item.all.items _ c.loop-item.left c.in-Some.item c.loop-item.invariant.1 c.loop-item.invariant.2)

pub returns : goal.returns
returns c = search (rules, words_over c.loop-item.invariant.0 c.loop-item.all.items _ c.loop-item.left c.loop-item.invariant.1)

pub loop-item-smaller : goal.loop-item-smaller
loop-item-smaller c = grind (arith, common_steps)

pub loop-item-init : goal.loop-item-init
loop-item-init c = grind (arith, common_steps)
