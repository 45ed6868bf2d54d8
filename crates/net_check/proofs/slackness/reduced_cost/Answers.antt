use Rattle.std.proofs.Common.{arith}
use Rattle.std.proofs.lemmas.Grind.{common_steps}
use Rattle.std.proofs.lemmas.Int.{ints}
use Rattle.net_check.proofs.slackness.reduced_cost.Goals as goal

pub returns : goal.returns
returns c =
    let src = c.wide-src.ensures.size in
    let dst = c.wide-dst.ensures.size in
    let cost = c.wide.ensures.size in
    omega (arith, ints, c.wide-src.ensures.value, c.wide-dst.ensures.value, c.wide.ensures.value)

pub overflow_add-result : goal.overflow_add-result
overflow_add-result c = grind (arith, common_steps)
