use Rattle.std.proofs.Common.{arith}
use Rattle.std.proofs.lemmas.Int.{ints}
use Rattle.net_normal.proofs.instance.NodeRange.high_side.Goals as goal

pub returns-in_default-Some-clause-size : goal.returns-in_default-Some-clause-size
returns-in_default-Some-clause-size c = λ k.
    let fits = c.args.self.now.high_fits c.in_default-Some.high c.in_default-Some.is-1 in
    record { above = omega (arith, ints, fits.above, fits.below); below = omega (arith, ints, fits.above, fits.below) }

pub returns-in-Some-None-clause-size : goal.returns-in-Some-None-clause-size
returns-in-Some-None-clause-size c = grind (arith)

pub returns-in-Some-None-clause-value : goal.returns-in-Some-None-clause-value
returns-in-Some-None-clause-value c = grind (arith)
