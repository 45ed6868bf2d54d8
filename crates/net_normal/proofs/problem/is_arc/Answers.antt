use Rattle.std.proofs.Common.{arith, rules, refl}
use Rattle.std.proofs.lemmas.Grind.{common_steps}
use Rattle.net_normal.specs.Limits.{cost_limit}
use Rattle.net_normal.proofs.problem.is_arc.Goals as goal

pub returns : goal.returns
returns c = (λ small. record { src = omega arith; dst = omega arith; low = search rules; room = search rules; cap = search rules; cost = (c.is_sized.ensures cost_limit refl).0 small }, λ fits. (c.is_sized.ensures cost_limit refl).1 fits.cost)

pub returns-then-arc-lt0 : goal.returns-then-arc-lt0
returns-then-arc-lt0 c = grind (arith, common_steps)

pub returns-then-arc-nodes : goal.returns-then-arc-nodes
returns-then-arc-nodes c = grind (arith, common_steps)
