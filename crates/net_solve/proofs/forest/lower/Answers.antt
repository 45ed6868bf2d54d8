use Rattle.std.proofs.Common.{◌≡◌, ℤ, to_z, of_z, w64, vec_len, subst, arith}
use Rattle.std.proofs.lemmas.Grind.{common_steps}
use Rattle.std.proofs.lemmas.Int.{ints}
use Rattle.net_solve.proofs.ForestSinking.{sunk-all, Sinks}
use Rattle.net_solve.proofs.forest.lower.Goals as goal

pub returns-clause-slackness : goal.returns-clause-slackness
returns-clause-slackness c =
    let amount = c.requires.amount in
    let plain : to_z w64 (of_z w64 c.args.amount) ≡ c.args.amount = omega (arith, ints, amount.above, amount.below) in
    let sinks = subst (λ (a : ℤ). Sinks (vec_len c.args.potentials.now) c.args.flags.now a c.args.potentials.now.items c.lower_each.new.potentials.items) plain c.lower_each.ensures.value in
    sunk-all (vec_len c.args.potentials.now) c.args.flags.now c.args.amount c.args.potentials.now.items c.lower_each.new.potentials.items c.args.arcs.now c.args.flows.now c.requires.arcs c.requires.positive sinks c.requires.clear c.requires.slackness

pub lower_each-requires-clause-sizes : goal.lower_each-requires-clause-sizes
lower_each-requires-clause-sizes c = grind (arith, common_steps)

pub lower_each-requires-clause-amount : goal.lower_each-requires-clause-amount
lower_each-requires-clause-amount c = grind (arith, common_steps)

pub returns-clause-value : goal.returns-clause-value
returns-clause-value c = grind (arith, common_steps)
