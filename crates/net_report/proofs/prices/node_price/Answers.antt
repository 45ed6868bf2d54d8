use Rattle.std.proofs.Common.{◌≡◌, to_z, of_z, arith}
use Rattle.std.proofs.lemmas.Grind.{common_steps}
use Rattle.std.proofs.lemmas.Int.{ints}
use mir.Syntax.{w128}
use Rattle.net_report.proofs.PriceLists.{price_is}
use Rattle.net_report.proofs.prices.node_price.Goals as goal

pub returns-clause-value : goal.returns-clause-value
returns-clause-value c =
    let small = c.signed.ensures.size in
    let plain : to_z w128 (of_z w128 c.signed.result) ≡ c.signed.result = omega (arith, ints) in
    let is = price_is c.args.instance.now c.args.potentials.now c.args.node c.index.result.now c.requires.node c.requires.potentials in
    grind (arith, common_steps, plain, is, c.signed.ensures.value, c.limited-price.ensures.value, c.difference-above.ensures.value)
