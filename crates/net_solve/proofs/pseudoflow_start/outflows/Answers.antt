use Rattle.std.proofs.Common.{◌≡◌, ℕ, ◌<◌, List, length, replicate, get_or, vec_len, pos, rules, sym, ◌∙◌, ap, subst, arith}
use Rattle.std.proofs.lemmas.Grind.{common_steps}
use Rattle.net_normal.specs.Flows.{IsWithinCapacity}
use Rattle.net_normal.specs.Limits.{IsFlowArcOf}
use Rattle.net_normal.specs.declared.problem.FlowArc.{FlowArc}
use Rattle.net_check.proofs.Pairs.{no_arc, zipped-lengths, flow-sized}
use Rattle.net_check.proofs.Balances.{Carries, carried-next, carried-small}
use Rattle.net_solve.proofs.PushedFlow.{carries-all, carried-whole, carried-none}
use Rattle.net_solve.proofs.pseudoflow_start.outflows.Goals as goal

pub bounds-flows-index : goal.bounds-flows-index
bounds-flows-index c =
    let arcs = c.args.problem.now.arcs.items in
    omega (arith, c.loop-index-test.true, ap length c.deref-arc-items.ensures.value, zipped-lengths IsWithinCapacity arcs c.args.flows.now c.requires)

pub carry-requires-clause-flow : goal.carry-requires-clause-flow
carry-requires-clause-flow c =
    let problem = c.args.problem.now in
    let inside : c.loop-index.index < length problem.arcs.items = omega (arith, c.loop-index-test.true, ap length c.deref-arc-items.ensures.value) in
    flow-sized (vec_len problem.supplies) problem.arcs.items c.args.flows.now problem.arcs_fit c.requires c.loop-index.index no_arc (pos 0) inside

pub carry-requires-clause-sizes : goal.carry-requires-clause-sizes
carry-requires-clause-sizes c = λ v l.
    let problem = c.args.problem.now in
    let h = c.loop-index.invariant in
    let inside : c.loop-index.index < length problem.arcs.items = omega (arith, c.loop-index-test.true, ap length c.deref-arc-items.ensures.value) in
    carried-small (vec_len problem.supplies) 0 problem.arcs.items c.args.flows.now c.loop-index.index c.loop-index.sent.items (omega (arith, inside, problem.few_arcs, problem.arcs.ok.0)) h v (omega (arith, l, h.count, c.loop-index.sent.ok.0))

pub loop-index-preserved : goal.loop-index-preserved
loop-index-preserved c =
    let problem = c.args.problem.now in
    let arcs = problem.arcs.items in
    let flows = c.args.flows.now in
    let i = c.loop-index.index in
    let h = c.loop-index.invariant in
    let inside : i < length arcs = omega (arith, c.loop-index-test.true, ap length c.deref-arc-items.ensures.value) in
    let inside' : i < length flows = omega (arith, inside, zipped-lengths IsWithinCapacity arcs flows c.requires) in
    let read : get_or c.deref-arc-items.result.now i no_arc ≡ get_or arcs i no_arc = ap (λ (bs : List FlowArc). get_or bs i no_arc) c.deref-arc-items.ensures.value in
    carried-next (vec_len problem.supplies) 0 arcs flows i no_arc (pos 0) c.loop-index.sent.items c.carry.new.sent.items inside inside'
    (flow-sized (vec_len problem.supplies) arcs flows problem.arcs_fit c.requires i no_arc (pos 0) inside)
    h (omega (arith, c.carry.ensures.len, h.count, c.loop-index.sent.ok.0, c.carry.new.sent.ok.0))
    (subst (λ (a : FlowArc). Carries (vec_len problem.supplies) 0 a (get_or flows i (pos 0)) c.loop-index.sent.items c.carry.new.sent.items) read
    (carries-all (vec_len problem.supplies) (get_or c.deref-arc-items.result.now i no_arc) (get_or flows i (pos 0)) c.loop-index.sent.items c.carry.new.sent.items (λ w l. c.carry.ensures.value w (omega (arith, l, h.count, c.loop-index.sent.ok.0)))))

pub carry-requires-clause-arc : goal.carry-requires-clause-arc
carry-requires-clause-arc c =
    let problem = c.args.problem.now in
    let i = c.loop-index.index in
    let inside : i < length problem.arcs.items = omega (arith, c.loop-index-test.true, ap length c.deref-arc-items.ensures.value) in
    let count : vec_len problem.supplies ≡ vec_len c.loop-index.sent = omega (arith, c.loop-index.invariant.count, c.loop-index.sent.ok.0) in
    let read : get_or problem.arcs.items i no_arc ≡ get_or c.deref-arc-items.result.now i no_arc = ap (λ (bs : List FlowArc). get_or bs i no_arc) (sym c.deref-arc-items.ensures.value) in
    subst (λ (n : ℕ). IsFlowArcOf n (get_or c.deref-arc-items.result.now i no_arc)) count
    (subst (IsFlowArcOf (vec_len problem.supplies)) read (problem.arcs_fit i no_arc inside))

pub returns-clause-len : goal.returns-clause-len
returns-clause-len c = omega (arith, c.loop-index.invariant.count, c.loop-index.sent.ok.0)

pub returns-clause-value : goal.returns-clause-value
returns-clause-value c = λ v l.
    let problem = c.args.problem.now in
    carried-whole (vec_len problem.supplies) problem.arcs.items c.args.flows.now c.loop-index.index c.loop-index.sent.items
    (omega (arith, c.loop-index-test.false, ap length c.deref-arc-items.ensures.value))
    (omega (arith, c.loop-index-test.false, ap length c.deref-arc-items.ensures.value, zipped-lengths IsWithinCapacity problem.arcs.items c.args.flows.now c.requires))
    c.loop-index.invariant v l

pub returns-clause-size : goal.returns-clause-size
returns-clause-size c = λ v l.
    let problem = c.args.problem.now in
    carried-small (vec_len problem.supplies) 0 problem.arcs.items c.args.flows.now c.loop-index.index c.loop-index.sent.items
    (omega (arith, c.loop-index.auto.index-end, c.deref-arc-items.ensures.len, problem.few_arcs))
    c.loop-index.invariant v l

pub loop-index-init : goal.loop-index-init
loop-index-init c =
    let problem = c.args.problem.now in
    let n = vec_len problem.supplies in
    let zeros : c.in_ok-sent.sent.items ≡ replicate c.len.result (pos 0) = search rules in
    rw (zeros ∙ ap (λ (m : ℕ). replicate m (pos 0)) c.len.ensures) (carried-none n problem.arcs.items c.args.flows.now)

pub offset_bounds-flows-index : goal.offset_bounds-flows-index
offset_bounds-flows-index c = grind (arith, common_steps)

pub offset_bounds-arc-items-index : goal.offset_bounds-arc-items-index
offset_bounds-arc-items-index c = grind (arith, common_steps)

pub bounds-arc-items-index : goal.bounds-arc-items-index
bounds-arc-items-index c = grind (arith, common_steps)
