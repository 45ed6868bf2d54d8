use Rattle.std.proofs.Common.{arith}
use Rattle.net_solve.proofs.Phases.{phases-few}
use Rattle.net_solve.proofs.solving.few_phases.Goals as goal

pub returns : goal.returns
returns c = λ problem phases steps digits state run some small. phases-few problem digits (omega (arith, some)) small phases steps state run
