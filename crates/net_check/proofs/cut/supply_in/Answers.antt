use Rattle.std.proofs.Common.{◌≡◌, ◌+◌, ◌<◌, ◌≤◌, ◌^◌, Bool, false, cond, List, length, get_or, ℤ, pos, ◌+ℤ◌, to_z, ap, sym, ◌∙◌, arith}
use Rattle.std.proofs.lemmas.Grind.{common_steps}
use mir.Syntax.{w128}
use Rattle.std.proofs.lemmas.Int.{ints}
use Rattle.net_normal.specs.Limits.{IsSized, flow_limit}
use Rattle.net_check.proofs.Sums.{smaller, sum_is}
use Rattle.net_check.proofs.Cuts.{HasSupplied, supplied-next, total-small}
use Rattle.net_check.proofs.cut.supply_in.Goals as goal
use Rattle.net_check.proofs.cut.supply_in.Goals.{then-flags-node, else-flags-node}

pub loop-node-preserved : goal.loop-node-preserved
loop-node-preserved c =
    let problem = c.args.problem.now in
    let supplies = problem.supplies.items in
    let flags = c.args.flags.now in
    let i = c.loop-node.node in
    let inside : i < length supplies = omega (arith, c.loop-node-test.true, ap length c.deref-supply-items.ensures.value) in
    let inside' : i < length flags = omega (arith, inside, c.requires, problem.supplies.ok.0) in
    let few : i ≤ 200000 = omega (arith, inside, problem.few_nodes, problem.supplies.ok.0) in
    let small : IsSized flow_limit (get_or supplies i (pos 0)) = problem.supplies_fit i (pos 0) inside in
    let chosen : Bool → ℤ = λ b. cond b (get_or supplies i (pos 0)) (pos 0) in
    let next : (z : ℤ) → z ≡ to_z w128 c.loop-node.total-bits +ℤ chosen (get_or flags i false) → HasSupplied supplies flags (i + 1) z
    = λ z e. supplied-next supplies flags i _ z inside inside' small c.loop-node.invariant e in
    elim c.if-flags-node.branch [
      | then-flags-node w ↦
          let big : IsSized (10 ^ 36) w.wide-total.result = smaller (2 ^ 63) (10 ^ 36) w.wide-total.result (omega arith) w.wide-total.ensures.size in
          let supply : w.wide-total.result ≡ chosen (get_or flags i false) =
          w.wide-total.ensures.value ∙ ap (λ (zs : List ℤ). get_or zs i (pos 0)) c.deref-supply-items.ensures.value ∙ ap chosen (sym w.if-flags-node.true) in
          next _ (w.total-is ∙ sum_is _ w.wide-total.result (total-small i _ few c.loop-node.invariant.size) big ∙ ap (λ (x : ℤ). to_z w128 c.loop-node.total-bits +ℤ x) supply)
      | else-flags-node w ↦
          let none : pos 0 ≡ chosen (get_or flags i false) = ap chosen (sym w.if-flags-node.false) in
          next _ (w.total-is ∙ omega (arith, ints, none))
    ]

pub loop-node-init : goal.loop-node-init
loop-node-init c = grind (arith, common_steps)

pub returns : goal.returns
returns c = grind (arith, common_steps)

pub overflow_add-total : goal.overflow_add-total
overflow_add-total c = grind (arith)
