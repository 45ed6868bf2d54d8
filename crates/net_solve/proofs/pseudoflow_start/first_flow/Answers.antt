use Rattle.std.proofs.Common.{arith}
use Rattle.std.proofs.lemmas.Grind.{common_steps}
use Rattle.std.proofs.lemmas.Int.{ints, clamps}
use Rattle.net_solve.proofs.pseudoflow_start.first_flow.Goals as goal

pub returns-else-reduced-lt0-clause-capacity : goal.returns-else-reduced-lt0-clause-capacity
returns-else-reduced-lt0-clause-capacity c =
    let fits = c.requires in
    record {
      low = omega (arith, ints, clamps, c.min.ensures.value, c.max.ensures.value, fits.low, fits.room, fits.cap);
      cap = omega (arith, ints, clamps, c.min.ensures.value, c.max.ensures.value, fits.low, fits.room, fits.cap);
    }

pub returns-then-reduced-lt0-clause-slackness : goal.returns-then-reduced-lt0-clause-slackness
returns-then-reduced-lt0-clause-slackness c = grind (arith, common_steps)

pub returns-then-reduced-gt0-clause-slackness : goal.returns-then-reduced-gt0-clause-slackness
returns-then-reduced-gt0-clause-slackness c = grind (arith, common_steps)

pub returns-else-reduced-lt0-clause-slackness : goal.returns-else-reduced-lt0-clause-slackness
returns-else-reduced-lt0-clause-slackness c = grind (arith, common_steps)

pub returns-then-reduced-lt0-clause-capacity : goal.returns-then-reduced-lt0-clause-capacity
returns-then-reduced-lt0-clause-capacity c = grind (arith, common_steps)

pub returns-then-reduced-gt0-clause-capacity : goal.returns-then-reduced-gt0-clause-capacity
returns-then-reduced-gt0-clause-capacity c = grind (arith, common_steps)
