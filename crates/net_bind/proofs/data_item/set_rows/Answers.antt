use Rattle.std.proofs.Common.{rules, arith}
use Rattle.net_bind.specs.SetData.{set_rows}
use Rattle.net_bind.proofs.Items.{has_words, rows_next, rows_over}
use Rattle.net_bind.proofs.data_item.set_rows.Goals as goal

pub push_item-requires : goal.push_item-requires
push_item-requires c =
    search (rules, arith, has_words c.args.dimension c.loop-item.invariant.0 c.loop-item.all.rows.items c.loop-item.all.alone c.loop-item.all.left.now c.loop-item.left c.in-Some.item (set_rows c.args.dimension c.args.members.now) c.loop-item.invariant.1)

pub loop-item-preserved : goal.loop-item-preserved
loop-item-preserved c =
    search (rules, rows_next c.args.dimension c.loop-item.invariant.0 c.loop-item.all.rows.items c.loop-item.all.alone c.loop-item.all.left.now c.loop-item.left c.in-Some.item (set_rows c.args.dimension c.args.members.now) c.begins_tuple.result c.len.result c.push_item.new.self.rows.items c.push_item.new.self.alone c.push_item.new.self.left.now c.loop-item.invariant.1)

pub returns : goal.returns
returns c =
    search (rules, rows_over c.args.dimension c.loop-item.invariant.0 c.loop-item.all.rows.items c.loop-item.all.alone c.loop-item.all.left.now c.loop-item.left (set_rows c.args.dimension c.args.members.now) c.loop-item.invariant.1)
