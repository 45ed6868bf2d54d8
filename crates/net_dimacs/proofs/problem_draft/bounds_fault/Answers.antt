use Rattle.std.proofs.Common.{arith}
use Rattle.std.proofs.lemmas.Grind.{common_steps}
use Rattle.std.proofs.lemmas.Int.{ints}
use Rattle.net_dimacs.proofs.problem_draft.bounds_fault.Goals as goal

pub returns-then-low-gt-FLOW_LIMIT-clause-value : goal.returns-then-low-gt-FLOW_LIMIT-clause-value
returns-then-low-gt-FLOW_LIMIT-clause-value c = grind (arith, ints)

pub returns-then-low-lt0-clause-value : goal.returns-then-low-lt0-clause-value
returns-then-low-lt0-clause-value c = grind (arith, ints)

pub returns-clause-value : goal.returns-clause-value
returns-clause-value c = grind (arith, ints)

pub returns-then-low-lt0-clause-room : goal.returns-then-low-lt0-clause-room
returns-then-low-lt0-clause-room c = grind (arith, common_steps)

pub returns-then-low-gt-FLOW_LIMIT-clause-cost : goal.returns-then-low-gt-FLOW_LIMIT-clause-cost
returns-then-low-gt-FLOW_LIMIT-clause-cost c = grind (arith, common_steps)

pub returns-clause-cost : goal.returns-clause-cost
returns-clause-cost c = grind (arith, common_steps)

pub returns-clause-room : goal.returns-clause-room
returns-clause-room c = grind (arith, common_steps)

pub returns-then-low-gt-FLOW_LIMIT-clause-room : goal.returns-then-low-gt-FLOW_LIMIT-clause-room
returns-then-low-gt-FLOW_LIMIT-clause-room c = grind (arith, common_steps)

pub returns-then-low-lt0-clause-cost : goal.returns-then-low-lt0-clause-cost
returns-then-low-lt0-clause-cost c = grind (arith, common_steps)

pub returns-clause-cap : goal.returns-clause-cap
returns-clause-cap c = grind (arith, common_steps)

pub returns-then-low-gt-FLOW_LIMIT-clause-cap : goal.returns-then-low-gt-FLOW_LIMIT-clause-cap
returns-then-low-gt-FLOW_LIMIT-clause-cap c = grind (arith, common_steps)

pub returns-then-low-gt-FLOW_LIMIT-clause-low : goal.returns-then-low-gt-FLOW_LIMIT-clause-low
returns-then-low-gt-FLOW_LIMIT-clause-low c = grind (arith, common_steps)

pub returns-then-low-lt0-clause-cap : goal.returns-then-low-lt0-clause-cap
returns-then-low-lt0-clause-cap c = grind (arith, common_steps)

pub returns-then-low-lt0-clause-low : goal.returns-then-low-lt0-clause-low
returns-then-low-lt0-clause-low c = grind (arith, common_steps)

pub returns-clause-low : goal.returns-clause-low
returns-clause-low c = grind (arith, common_steps)
