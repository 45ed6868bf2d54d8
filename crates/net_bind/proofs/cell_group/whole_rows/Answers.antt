use Rattle.std.proofs.Common.{rules, ◌+◌, ◌<◌, arith}
use Rattle.std.proofs.lemmas.Grind.{common_steps}
use Rattle.net_data.specs.Rows.{groups}
use Rattle.net_bind.specs.SetData.{whole_groups}
use Rattle.net_bind.proofs.Lists.{group_more, checks_more}
use Rattle.net_bind.proofs.cell_group.whole_rows.Goals as goal

pub overflow_add-keys : goal.overflow_add-keys
overflow_add-keys c = grind (arith, common_steps)

pub loop-left-preserved : goal.loop-left-preserved
loop-left-preserved c =
    let size = c.args.keys + c.args.values in
    let some : 0 < size = grind (arith, common_steps) in
    record {
      check = search (rules, checks_more c.args.at c.args.keys size c.loop-left.left.now c.behind-left.result.now tt (whole_groups c.args.at c.args.keys size (groups size c.args.cells.now)) some);
      rows = search (rules, group_more size c.loop-left.left.now c.front.result.now c.behind-left.result.now c.loop-left.all.items (groups size c.args.cells.now) some);
    }
