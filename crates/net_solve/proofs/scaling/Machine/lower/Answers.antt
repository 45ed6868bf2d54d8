use Rattle.std.proofs.Common.{◌≡◌, ℤ, pos, get_or, ◌<ℤ◌, FitsSigned, to_z, of_z, w64, rules, sym, subst, arith}
use Rattle.std.specs.Int.{w128}
use Rattle.std.proofs.lemmas.Int.{ints}
use Rattle.std.proofs.lemmas.List.{get_or_read}
use Rattle.net_solve.specs.Machines.{IsDeep, MaySink}
use Rattle.net_solve.proofs.Carrying.{excess-sized}
use Rattle.net_solve.proofs.Stepping.{plain}
use Rattle.net_solve.proofs.Sinking.{running-lowered}
use Rattle.net_solve.proofs.scaling.Machine.lower.Goals as goal

pub returns-clause-running : goal.returns-clause-running
returns-clause-running c =
    let problem = c.args.problem.now in
    let m = c.args.self.now in
    let h = c.requires.running in
    let ps = m.potentials.items in
    let xs = m.carried.excess.items in
    let v = c.args.node in
    let excess : c.index.result.now ≡ get_or xs v (pos 0) = get_or_read xs _ _ (omega (arith, c.requires.node, h.standing.carried.excess_count)) c.index.ensures (pos 0) in
    let small = excess-sized problem m.carried.flows.items xs h.standing.carried v c.requires.node in
    let wide : to_z w128 (of_z w128 c.index.result.now) ≡ c.index.result.now = omega (arith, ints, excess, small.above, small.below) in
    let has : pos 0 <ℤ c.index.result.now = let t = c.if-index-le0.false in grind (arith, ints) in
    let old : c.index_mut.result.now ≡ get_or ps v (pos 0) = get_or_read ps _ _ (omega (arith, c.requires.node, h.standing.deep.count)) c.index_mut.ensures.value (pos 0) in
    let read : c.index-2.result.now ≡ get_or ps v (pos 0) = get_or_read ps _ _ (omega (arith, c.requires.node, h.standing.deep.count)) c.index-2.ensures (pos 0) in
    let f : FitsSigned w64 c.args.amount.now = search rules in
    let p = plain c.args.amount.now f in
    let deep = h.standing.deep.each v c.requires.node in
    let sink : MaySink (get_or ps v (pos 0)) c.args.least.now c.args.amount.now m.epsilon = subst (λ (x : ℤ). MaySink x c.args.least.now c.args.amount.now m.epsilon) read (c.may_sink.ensures c.if-not-may_sink.false) in
    let lower = sink.deep in
    running-lowered problem m v c.args.least.now c.args.amount.now _ h c.requires.node (subst (λ (x : ℤ). pos 0 <ℤ x) excess has) c.if-self.false c.requires.least sink
    (omega (arith, ints, old, p, deep.above, deep.below, lower.above, lower.below))

pub may_sink-requires-clause-potential : goal.may_sink-requires-clause-potential
may_sink-requires-clause-potential c =
    let h = c.requires.running.standing in
    let read : c.index-2.result.now ≡ get_or c.args.self.now.potentials.items c.args.node (pos 0) = get_or_read c.args.self.now.potentials.items _ _ (omega (arith, c.requires.node, h.deep.count)) c.index-2.ensures (pos 0) in
    subst IsDeep (sym read) (h.deep.each c.args.node c.requires.node)

pub overflow_sub-index_mut : goal.overflow_sub-index_mut
overflow_sub-index_mut c =
    let h = c.requires.running.standing in
    let old : c.index_mut.result.now ≡ get_or c.args.self.now.potentials.items c.args.node (pos 0) = get_or_read c.args.self.now.potentials.items _ _ (omega (arith, c.requires.node, h.deep.count)) c.index_mut.ensures.value (pos 0) in
    let f : FitsSigned w64 c.args.amount.now = search rules in
    let p = plain c.args.amount.now f in
    let deep = h.deep.each c.args.node c.requires.node in
    let read : c.index-2.result.now ≡ get_or c.args.self.now.potentials.items c.args.node (pos 0) = get_or_read c.args.self.now.potentials.items _ _ (omega (arith, c.requires.node, h.deep.count)) c.index-2.ensures (pos 0) in
    let sink = c.may_sink.ensures c.if-not-may_sink.false in
    omega (arith, ints, old, read, p, deep.above, deep.below, sink.deep.above, sink.deep.below)

pub may_sink-requires-clause-epsilon : goal.may_sink-requires-clause-epsilon
may_sink-requires-clause-epsilon c = grind (arith)
