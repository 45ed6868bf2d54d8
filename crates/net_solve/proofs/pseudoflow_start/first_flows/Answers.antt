use Rattle.std.proofs.Common.{◌≡◌, ◌<◌, ℤ, List, length, get_or, vec_len, pos, to_z, of_z, w64, ap, subst, arith}
use Rattle.std.proofs.lemmas.Grind.{common_steps}
use Rattle.std.proofs.lemmas.Int.{ints}
use Rattle.net_check.proofs.Pairs.{within-sized}
use Rattle.net_normal.specs.Flows.{IsWithinCapacity}
use Rattle.net_normal.specs.declared.problem.FlowArc.{FlowArc}
use Rattle.net_check.specs.Certificates.{IsComplementary}
use Rattle.net_solve.specs.Pseudoflows.{no_arc}
use Rattle.net_solve.proofs.PushedFlow.{pushed}
use Rattle.net_solve.proofs.SlackScanning.{zipped-from}
use Rattle.net_solve.proofs.pseudoflow_start.first_flows.Goals as goal

pub loop-index-preserved : goal.loop-index-preserved
loop-index-preserved c =
    let h = c.loop-index.invariant in
    let arcs = c.args.problem.now.arcs.items in
    let i = c.loop-index.index in
    let flows = c.loop-index.flows.items in
    let count : length flows ≡ i = omega (arith, h.count, c.loop-index.flows.ok.0) in
    let inside : i < length arcs = omega (arith, c.loop-index-test.true, ap length c.deref-arc-items.ensures.value) in
    let r : ℤ = c.first_flow.result in
    let same = ap (λ (xs : List FlowArc). get_or xs i no_arc) c.deref-arc-items.ensures.value in
    let within : IsWithinCapacity (get_or arcs i no_arc) r = subst (λ (a : FlowArc). IsWithinCapacity a r) same c.first_flow.ensures.capacity in
    let slack : IsComplementary c.args.potentials.now (get_or arcs i no_arc) r = subst (λ (a : FlowArc). IsComplementary c.args.potentials.now a r) same c.first_flow.ensures.slackness in
    let small = within-sized (vec_len c.args.problem.now.supplies) (get_or arcs i no_arc) r (c.args.problem.now.arcs_fit i no_arc inside) within in
    let plain : r ≡ to_z w64 (of_z w64 r) = omega (arith, ints, small.above, small.below) in
    let y : ℤ = to_z w64 (of_z w64 r) in
    rw c.in_ok-push.ensures.items (record {
      count = omega (arith, c.in_ok-push.ensures.len, h.count);
      capacity = pushed (λ k z. IsWithinCapacity (get_or arcs k no_arc) z) flows y (pos 0) i count h.capacity (subst (IsWithinCapacity (get_or arcs i no_arc)) plain within);
      slackness = pushed (λ k z. IsComplementary c.args.potentials.now (get_or arcs k no_arc) z) flows y (pos 0) i count h.slackness (subst (IsComplementary c.args.potentials.now (get_or arcs i no_arc)) plain slack);
    })

pub returns-clause-capacity : goal.returns-clause-capacity
returns-clause-capacity c =
    let arcs = c.args.problem.now.arcs.items in
    let h = c.loop-index.invariant in
    let end : length arcs ≡ c.loop-index.index = omega (arith, c.loop-index-test.false, c.loop-index.auto.index-end, ap length c.deref-arc-items.ensures.value) in
    zipped-from IsWithinCapacity arcs c.loop-index.flows.items (omega (arith, end, h.count, c.loop-index.flows.ok.0)) (λ k l. h.capacity k (omega (arith, l, end)))

pub returns-clause-slackness : goal.returns-clause-slackness
returns-clause-slackness c =
    let arcs = c.args.problem.now.arcs.items in
    let h = c.loop-index.invariant in
    let end : length arcs ≡ c.loop-index.index = omega (arith, c.loop-index-test.false, c.loop-index.auto.index-end, ap length c.deref-arc-items.ensures.value) in
    zipped-from (IsComplementary c.args.potentials.now) arcs c.loop-index.flows.items (omega (arith, end, h.count, c.loop-index.flows.ok.0)) (λ k l. h.slackness k (omega (arith, l, end)))

pub offset_bounds-arc-items-index : goal.offset_bounds-arc-items-index
offset_bounds-arc-items-index c = grind (arith, common_steps)

pub first_flow-requires : goal.first_flow-requires
first_flow-requires c = grind (arith, common_steps)

pub bounds-arc-items-index : goal.bounds-arc-items-index
bounds-arc-items-index c = grind (arith, common_steps)

pub loop-index-init : goal.loop-index-init
loop-index-init c = grind (arith, common_steps)

pub get-requires : goal.get-requires
get-requires c = grind (arith, common_steps)
