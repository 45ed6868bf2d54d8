use Rattle.std.proofs.Common.{◌≡◌, ◌+◌, ◌<◌, ◌∷◌, List, ℕ, ℤ, length, drop, get_or, pos, sym, ap, ◌∙◌, arith, add-one}
use Rattle.std.proofs.Math.Seq.{drop-cons}
use Rattle.std.proofs.lemmas.Grind.{common_steps}
use Rattle.net_report.specs.Prices.{node_prices}
use Rattle.net_report.proofs.PriceLists.{prices_count}
use Rattle.net_report.proofs.prices.node_prices.Goals as goal

pub loop-node-preserved : goal.loop-node-preserved
loop-node-preserved c =
    let all = node_prices c.args.instance.now c.args.potentials.now in
    let k = c.loop-node.node in
    let inside : k < length all = omega (arith, c.loop-node-test.true, c.len-node-end.ensures, prices_count c.args.instance.now c.args.potentials.now c.requires) in
    let next : drop k all ≡ get_or all k (pos 0) ∷ drop (k + 1) all = drop-cons all k (pos 0) inside ∙ ap (λ (n : ℕ). get_or all k (pos 0) ∷ drop n all) (sym (add-one k)) in
    grind (arith, common_steps, next, c.node_price.ensures.value)

pub returns : goal.returns
returns c =
    let count = prices_count c.args.instance.now c.args.potentials.now c.requires in
    grind (arith, common_steps, count)
