use Rattle.std.proofs.Common.{arith}
use Rattle.std.proofs.lemmas.Int.{ints}
use Rattle.net_normal.proofs.instance.NodeRange.low_side.Goals as goal

pub returns-in-Some-default-clause-size : goal.returns-in-Some-default-clause-size
returns-in-Some-default-clause-size c = λ k.
    let fits = c.args.self.now.low_fits c.in-Some-default.low c.in-Some-default.is-0 in
    record { above = omega (arith, ints, fits.above, fits.below); below = omega (arith, ints, fits.above, fits.below) }

pub returns-in-None-Some-clause-size : goal.returns-in-None-Some-clause-size
returns-in-None-Some-clause-size c = grind (arith)

pub returns-in-None-Some-clause-value : goal.returns-in-None-Some-clause-value
returns-in-None-Some-clause-value c = grind (arith)
