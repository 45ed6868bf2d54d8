use Rattle.std.proofs.Common.{arith}
use Rattle.std.proofs.lemmas.Grind.{common_steps}
use Rattle.net_solve.proofs.scaling.Scaling.run_phases.Goals as goal

pub ended-requires : goal.ended-requires
ended-requires c = grind (arith)

pub greatest_cost-requires : goal.greatest_cost-requires
greatest_cost-requires c = grind (arith)

pub returns : goal.returns
returns c = grind (arith)

pub returns-in_default : goal.returns-in_default
returns-in_default c = grind (arith)

pub returns-then-not-run_phases : goal.returns-then-not-run_phases
returns-then-not-run_phases c = grind (arith)

pub run_phases-requires-clause-rows : goal.run_phases-requires-clause-rows
run_phases-requires-clause-rows c = grind (arith)

pub run_phases-requires-clause-size : goal.run_phases-requires-clause-size
run_phases-requires-clause-size c = grind (arith)

pub run_phases-requires-clause-standing : goal.run_phases-requires-clause-standing
run_phases-requires-clause-standing c = grind (arith)
