use Rattle.std.proofs.Common.{◌≡◌, ◌<◌, ◌+◌, ◌-◌, ◌^◌, length, get_or, ℤ, pos, of_z, ap, sym, ◌∙◌, arith, refl, below_more, vec_len}
use Rattle.std.proofs.lemmas.Grind.{common_steps}
use mir.Syntax.{w128}
use Rattle.net_normal.specs.Limits.{IsSized}
use Rattle.net_normal.specs.Flows.{net_outflow}
use Rattle.net_normal.proofs.NodeRuns.{slice_get-inside}
use Rattle.net_check.specs.FirstFaults.{NodeKeeps}
use Rattle.net_check.proofs.Pairs.{got, gets}
use Rattle.net_check.proofs.Sums.{same_bits, smaller}
use Rattle.net_check.proofs.balance.first_in_block.Goals as goal

pub returns-then-balances-node-clause-some : goal.returns-then-balances-node-clause-some
returns-then-balances-node-clause-some g c =
    let problem = c.args.problem.now in
    let supplies = problem.supplies.items in
    let v = c.loop-node.node in
    let k = v - c.args.first in
    let e : ℤ = c.index.result.now in
    let below : k < g.row.N = omega (arith, c.loop-node-test.true, c.min-end.ensures, c.loop-node.auto.node) in
    let inside : v < length supplies = omega (arith, c.loop-node-test.true, c.min-end.ensures, c.len.ensures, problem.supplies.ok.0) in
    let at : c.args.first + k ≡ v = omega (arith, c.loop-node.auto.node) in
    let balance : get_or c.carry_all.new.balances k (pos 0) ≡ net_outflow problem.arcs.items c.args.flows.now v = c.carry_all.ensures.value k below ∙ ap (net_outflow problem.arcs.items c.args.flows.now) at in
    let supply : c.wide.result ≡ get_or supplies v e = c.wide.ensures.value ∙ c.index.ensures in
    record {
      index = v;
      counted = refl;
      fails = λ keeps. c.if-balances-node.true (ap (of_z w128) (balance ∙ keeps (get_or supplies v e) (gets supplies v e inside) ∙ sym supply));
      before = c.loop-node.invariant;
    }

pub loop-node-preserved : goal.loop-node-preserved
loop-node-preserved g c =
    let problem = c.args.problem.now in
    let supplies = problem.supplies.items in
    let v = c.loop-node.node in
    let k = v - c.args.first in
    let e : ℤ = c.index.result.now in
    let below : k < g.row.N = omega (arith, c.loop-node-test.true, c.min-end.ensures, c.loop-node.auto.node) in
    let at : c.args.first + k ≡ v = omega (arith, c.loop-node.auto.node) in
    let balance = get_or c.carry_all.new.balances k (pos 0) in
    let is : balance ≡ net_outflow problem.arcs.items c.args.flows.now v = c.carry_all.ensures.value k below ∙ ap (net_outflow problem.arcs.items c.args.flows.now) at in
    let supply : c.wide.result ≡ get_or supplies v e = c.wide.ensures.value ∙ c.index.ensures in
    let left : IsSized (10 ^ 36) balance = smaller (10 ^ 24) (10 ^ 36) balance (omega arith) (c.carry_all.ensures.sizes k below) in
    let right : IsSized (10 ^ 36) c.wide.result = smaller (2 ^ 63) (10 ^ 36) c.wide.result (omega arith) c.wide.ensures.size in
    let same : balance ≡ c.wide.result = same_bits balance c.wide.result left right c.if-balances-node.false in
    below_more (NodeKeeps problem c.args.flows.now) v c.loop-node.invariant
    (λ s p. sym is ∙ same ∙ supply ∙ got supplies v s e p)

pub returns-clause-none : goal.returns-clause-none
returns-clause-none g c = λ v far supply p.
    let supplies = c.args.problem.now.supplies.items in
    let inside : v < vec_len c.args.problem.now.supplies = omega (arith, slice_get-inside supplies v supply p, c.args.problem.now.supplies.ok.0) in
    let before : v < c.loop-node.node = omega (arith, inside, far, c.loop-node-test.false, c.min-end.ensures, c.len.ensures) in
    c.loop-node.invariant v before supply p

pub overflow_cast-result : goal.overflow_cast-result
overflow_cast-result g c = grind (arith, common_steps)

pub carry_all-requires : goal.carry_all-requires
carry_all-requires g c = grind (arith, common_steps)

pub overflow_add-result : goal.overflow_add-result
overflow_add-result g c = grind (arith, common_steps)

pub loop-node-init : goal.loop-node-init
loop-node-init g c = grind (arith, common_steps)
