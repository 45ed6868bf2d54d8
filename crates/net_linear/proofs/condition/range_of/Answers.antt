use Rattle.std.proofs.Common.{arith}
use Rattle.std.proofs.lemmas.Grind.{common_steps}
use Rattle.net_tree.specs.View.{condition_of}
use Rattle.net_linear.proofs.Ranges.{sides_sized}
use Rattle.net_linear.proofs.condition.range_of.Goals as goal

pub uncrossed-requires : goal.uncrossed-requires
uncrossed-requires c = sides_sized c.args.env.now c.args.scope.now (condition_of c.args.condition.now) c.in_ok-sides.sides c.in_ok-sides.ensures

pub returns : goal.returns
returns c = grind (arith, common_steps)
