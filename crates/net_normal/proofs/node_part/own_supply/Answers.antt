use Rattle.std.proofs.Common.{arith}
use Rattle.std.proofs.lemmas.Int.{ints}
use Rattle.net_normal.proofs.node_part.own_supply.Goals as goal

pub overflow_sub-result : goal.overflow_sub-result
overflow_sub-result c = let small = c.low_side.ensures.size c.requires.least in omega (arith, ints)

pub returns-clause-value : goal.returns-clause-value
returns-clause-value c = let small = c.low_side.ensures.size c.requires.least in omega (arith, ints, c.low_side.ensures.value)

pub returns-clause-size : goal.returns-clause-size
returns-clause-size c =
    let small = c.low_side.ensures.size c.requires.least in
    record { above = omega (arith, ints); below = omega (arith, ints) }
