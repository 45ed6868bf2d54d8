use Rattle.std.proofs.Common.{arith}
use Rattle.std.proofs.lemmas.Grind.{common_steps}
use Rattle.net_expr.specs.Limits.{is_small}
use Rattle.net_linear.proofs.term.less.Goals as goal

pub returns : goal.returns
unfolding is_small
returns c = grind (arith, common_steps)
