use Rattle.std.proofs.Common.{rules, arith}
use Rattle.net_bind.proofs.Items.{full, short}
use Rattle.net_bind.proofs.data_item.SetRows.push_item.Goals as goal

pub returns-then-dimension-self-clause-rows : goal.returns-then-dimension-self-clause-rows
returns-then-dimension-self-clause-rows c =
    search (rules, arith, full c.args.dimension c.args.self.now.alone c.args.count c.args.self.now.rows.items c.args.self.now.left.now c.push_row-then-dimension-self.new.self.left.now c.args.is_tuple)

pub returns-clause-rows : goal.returns-clause-rows
returns-clause-rows c = search (rules, arith, short c.args.dimension c.args.self.now.alone c.args.count c.args.self.now.rows.items c.args.self.now.left.now c.args.is_tuple)
