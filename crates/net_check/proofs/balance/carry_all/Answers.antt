use Rattle.std.proofs.Common.{◌≡◌, ◌<◌, ◌≤◌, List, length, get_or, vec_len, pos, ap, subst, arith}
use Rattle.std.proofs.lemmas.Grind.{common_steps}
use Rattle.net_normal.specs.Flows.{IsWithinCapacity}
use Rattle.net_normal.specs.declared.problem.FlowArc.{FlowArc}
use Rattle.net_check.proofs.Pairs.{no_arc, zipped-lengths, flow-sized}
use Rattle.net_check.proofs.Balances.{Carries, carried-next, carried-small}
use Rattle.net_check.proofs.balance.carry_all.Goals as goal

pub bounds-flows-index : goal.bounds-flows-index
bounds-flows-index g c =
    let arcs = c.args.problem.now.arcs.items in
    omega (arith, c.loop-index-test.true, ap length c.deref-arc-items.ensures.value, zipped-lengths IsWithinCapacity arcs c.args.flows.now c.requires.flows)

pub carry-requires : goal.carry-requires
carry-requires g c =
    let problem = c.args.problem.now in
    let arcs = problem.arcs.items in
    let flows = c.args.flows.now in
    let i = c.loop-index.index in
    let inside : i < length arcs = omega (arith, c.loop-index-test.true, ap length c.deref-arc-items.ensures.value) in
    let few : i ≤ 200000 = omega (arith, inside, problem.few_arcs, problem.arcs.ok.0) in
    (omega (arith, c.requires.few), (omega (arith, c.requires.few), (omega (arith, c.requires.first), (flow-sized (vec_len problem.supplies) arcs flows problem.arcs_fit c.requires.flows i no_arc (pos 0) inside, carried-small g.row.N c.args.first arcs flows i c.loop-index.balances few c.loop-index.invariant))))

pub loop-index-preserved : goal.loop-index-preserved
loop-index-preserved g c =
    let problem = c.args.problem.now in
    let arcs = problem.arcs.items in
    let flows = c.args.flows.now in
    let i = c.loop-index.index in
    let inside : i < length arcs = omega (arith, c.loop-index-test.true, ap length c.deref-arc-items.ensures.value) in
    let inside' : i < length flows = omega (arith, inside, zipped-lengths IsWithinCapacity arcs flows c.requires.flows) in
    let read : get_or c.deref-arc-items.result.now i no_arc ≡ get_or arcs i no_arc = ap (λ (bs : List FlowArc). get_or bs i no_arc) c.deref-arc-items.ensures.value in
    carried-next g.row.N c.args.first arcs flows i no_arc (pos 0) c.loop-index.balances c.carry.new.balances inside inside'
    (flow-sized (vec_len problem.supplies) arcs flows problem.arcs_fit c.requires.flows i no_arc (pos 0) inside)
    c.loop-index.invariant c.carry.ensures.len
    (subst (λ (a : FlowArc). Carries g.row.N c.args.first a (get_or flows i (pos 0)) c.loop-index.balances c.carry.new.balances) read c.carry.ensures.value)

pub returns-clause-sizes : goal.returns-clause-sizes
returns-clause-sizes g c =
    let problem = c.args.problem.now in
    let few : c.loop-index.index ≤ 200000 = omega (arith, c.loop-index.auto.index-end, c.deref-arc-items.ensures.len, problem.few_arcs) in
    carried-small g.row.N c.args.first problem.arcs.items c.args.flows.now c.loop-index.index c.loop-index.balances few c.loop-index.invariant

pub loop-index-init : goal.loop-index-init
loop-index-init g c = grind (arith, common_steps)

pub returns-clause-value : goal.returns-clause-value
returns-clause-value g c = grind (arith, common_steps)
