use Rattle.std.proofs.Common.{◌≡◌, ◌<◌, ◌≤◌, ◌^◌, List, length, get_or, vec_len, pos, ◌*ℤ◌, ap, ◌∙◌, arith}
use Rattle.std.proofs.lemmas.Grind.{common_steps}
use Rattle.net_normal.specs.Limits.{IsSized}
use Rattle.net_normal.specs.Flows.{IsWithinCapacity}
use Rattle.net_normal.specs.declared.problem.FlowArc.{FlowArc}
use Rattle.net_check.proofs.Pairs.{no_arc, zipped-lengths, flow-sized}
use Rattle.net_check.proofs.Sums.{priced-next, price-small, smaller, sum_is}
use Rattle.net_check.proofs.cost.cost.Goals as goal

pub bounds-flows-index : goal.bounds-flows-index
bounds-flows-index c =
    let arcs = c.args.problem.now.arcs.items in
    omega (arith, c.loop-index-test.true, ap length c.deref-arc-items.ensures.value, zipped-lengths IsWithinCapacity arcs c.args.flows.now c.requires)

pub price-total-requires-clause-flow : goal.price-total-requires-clause-flow
price-total-requires-clause-flow c =
    let problem = c.args.problem.now in
    let inside : c.loop-index.index < length problem.arcs.items = omega (arith, c.loop-index-test.true, ap length c.deref-arc-items.ensures.value) in
    flow-sized (vec_len problem.supplies) problem.arcs.items c.args.flows.now problem.arcs_fit c.requires c.loop-index.index no_arc (pos 0) inside

pub loop-index-preserved : goal.loop-index-preserved
loop-index-preserved c =
    let problem = c.args.problem.now in
    let arcs = problem.arcs.items in
    let flows = c.args.flows.now in
    let i = c.loop-index.index in
    let inside : i < length arcs = omega (arith, c.loop-index-test.true, ap length c.deref-arc-items.ensures.value) in
    let inside' : i < length flows = omega (arith, inside, zipped-lengths IsWithinCapacity arcs flows c.requires) in
    let few : i ≤ 200000 = omega (arith, inside, problem.few_arcs, problem.arcs.ok.0) in
    let price = c.price-total.result in
    let is : price ≡ (get_or arcs i no_arc).cost *ℤ get_or flows i (pos 0) = c.price-total.ensures.value ∙ ap (λ (bs : List FlowArc). (get_or bs i no_arc).cost *ℤ get_or flows i (pos 0)) c.deref-arc-items.ensures.value in
    let big : IsSized (10 ^ 36) price = smaller (10 ^ 30) (10 ^ 36) price (omega arith) c.price-total.ensures.size in
    priced-next arcs flows i no_arc (pos 0) _ price _ inside inside' c.loop-index.invariant is c.price-total.ensures.size
    (sum_is _ price (price-small i _ few c.loop-index.invariant.size) big)

pub overflow_add-total : goal.overflow_add-total
overflow_add-total c = grind (arith, common_steps)

pub returns : goal.returns
returns c = grind (arith, common_steps)

pub price-total-requires-clause-cost : goal.price-total-requires-clause-cost
price-total-requires-clause-cost c = grind (arith, common_steps)

pub loop-index-init : goal.loop-index-init
loop-index-init c = grind (arith, common_steps)
