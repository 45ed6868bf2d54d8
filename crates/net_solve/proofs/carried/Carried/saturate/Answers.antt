use Rattle.std.proofs.Common.{◌≡◌, ℕ, ◌+◌, List, get_or, ℤ, pos, ◌+ℤ◌, ◌-ℤ◌, to_z, of_z, w64, refl, sym, ◌∙◌, ap, subst, arith, vec_len}
use Rattle.std.proofs.lemmas.Int.{ints}
use Rattle.std.proofs.lemmas.List.{get_or_read}
use Rattle.std.proofs.lemmas.Grind.{get_or-set_at, common_steps}
use Rattle.net_normal.specs.Limits.{IsSized, flow_limit}
use Rattle.net_normal.specs.Flows.{IsWithinCapacity}
use Rattle.net_normal.specs.declared.problem.FlowArc.{FlowArc}
use Rattle.net_solve.specs.Pseudoflows.{no_arc, arc_at}
use Rattle.net_solve.specs.Runs.{Saturates, reduced, factor}
use Rattle.net_solve.proofs.Carrying.{known, new-sized}
use Rattle.net_solve.proofs.Stepping.{cost-plain}
use Rattle.net_solve.proofs.Phases.{saturated-here, difference-plain, difference-fits, difference-sized}
use Rattle.net_solve.proofs.carried.Carried.saturate.Goals.{After-index-2, After-target_of-target}
use Rattle.net_solve.proofs.carried.Carried.saturate.Goals as goal

arc_is : (c : After-index-2) → c.index.result.now ≡ arc_at c.args.problem.now c.args.index
arc_is c =
    let problem = c.args.problem.now in
    let k = known problem c.args.self.now.flows.items _ c.args.index c.requires.carried c.requires.index in
    get_or_read problem.arcs.items _ _ k.arc c.index.ensures no_arc

flow_is : (c : After-index-2) → c.index-2.result.now ≡ get_or c.args.self.now.flows.items c.args.index (pos 0)
flow_is c =
    let k = known c.args.problem.now c.args.self.now.flows.items _ c.args.index c.requires.carried c.requires.index in
    get_or_read c.args.self.now.flows.items _ _ k.flow c.index-2.ensures (pos 0)

flow_sized : (c : After-index-2) → IsSized flow_limit c.index-2.result.now
flow_sized c =
    let k = known c.args.problem.now c.args.self.now.flows.items _ c.args.index c.requires.carried c.requires.index in
    subst (IsSized flow_limit) (sym (flow_is c)) k.old

pub target_of-target-requires-clause-within : goal.target_of-target-requires-clause-within
target_of-target-requires-clause-within c =
    let d = (goal.at.target_of-target-requires-clause-within c).After-index-2 in
    let problem = c.args.problem.now in
    let k = known problem c.args.self.now.flows.items _ c.args.index c.requires.carried c.requires.index in
    let s = flow_sized d in
    let p : to_z w64 (of_z w64 c.index-2.result.now) ≡ c.index-2.result.now = omega (arith, ints, s.above, s.below) in
    subst (λ (a : FlowArc). IsWithinCapacity a (to_z w64 (of_z w64 c.index-2.result.now))) (sym (arc_is d)) (subst (IsWithinCapacity (arc_at problem c.args.index)) (sym (p ∙ flow_is d)) k.within)

arc_is' : (c : After-target_of-target) → c.index.result.now ≡ arc_at c.args.problem.now c.args.index
arc_is' c =
    let problem = c.args.problem.now in
    let k = known problem c.args.self.now.flows.items _ c.args.index c.requires.carried c.requires.index in
    get_or_read problem.arcs.items _ _ k.arc c.index.ensures no_arc

flow_is' : (c : After-target_of-target) → c.index-2.result.now ≡ get_or c.args.self.now.flows.items c.args.index (pos 0)
flow_is' c =
    let k = known c.args.problem.now c.args.self.now.flows.items _ c.args.index c.requires.carried c.requires.index in
    get_or_read c.args.self.now.flows.items _ _ k.flow c.index-2.ensures (pos 0)

flow_sized' : (c : After-target_of-target) → IsSized flow_limit c.index-2.result.now
flow_sized' c =
    let k = known c.args.problem.now c.args.self.now.flows.items _ c.args.index c.requires.carried c.requires.index in
    subst (IsSized flow_limit) (sym (flow_is' c)) k.old

target_within : (c : After-target_of-target) → IsWithinCapacity (arc_at c.args.problem.now c.args.index) c.target_of-target.result
target_within c = subst (λ (a : FlowArc). IsWithinCapacity a c.target_of-target.result) (arc_is' c) c.target_of-target.ensures.within

target_sized : (c : After-target_of-target) → IsSized flow_limit c.target_of-target.result
target_sized c =
    let k = known c.args.problem.now c.args.self.now.flows.items _ c.args.index c.requires.carried c.requires.index in
    new-sized c.args.problem.now c.args.index c.target_of-target.result k.arc (target_within c)

pub overflow_sub-amount : goal.overflow_sub-amount
overflow_sub-amount c =
    let d = (goal.at.overflow_sub-amount c).After-target_of-target in
    difference-fits c.target_of-target.result c.index-2.result.now (target_sized d) (flow_sized' d)

amount_is : (c : After-target_of-target) → to_z w64 (of_z w64 (to_z w64 (of_z w64 c.target_of-target.result) -ℤ to_z w64 (of_z w64 c.index-2.result.now))) ≡ c.target_of-target.result -ℤ get_or c.args.self.now.flows.items c.args.index (pos 0)
amount_is c = difference-plain c.target_of-target.result c.index-2.result.now (target_sized c) (flow_sized' c) ∙ ap (λ (y : ℤ). c.target_of-target.result -ℤ y) (flow_is' c)

pub shift-requires-clause-amount : goal.shift-requires-clause-amount
shift-requires-clause-amount c =
    let d = (goal.at.shift-requires-clause-amount c).After-target_of-target in
    let problem = c.args.problem.now in
    let k = known problem c.args.self.now.flows.items _ c.args.index c.requires.carried c.requires.index in
    subst (IsSized flow_limit) (sym (amount_is d)) (difference-sized (vec_len problem.supplies) (arc_at problem c.args.index) _ _ (problem.arcs_fit c.args.index no_arc k.arc) (target_within d) k.within)

saturates : (c : After-target_of-target) → Saturates (reduced (factor c.args.problem.now) c.args.potentials.now (arc_at c.args.problem.now c.args.index)) (arc_at c.args.problem.now c.args.index) (get_or c.args.self.now.flows.items c.args.index (pos 0)) c.target_of-target.result
saturates c =
    let d = c in
    let s = flow_sized' d in
    let p : to_z w64 (of_z w64 c.index-2.result.now) ≡ c.index-2.result.now = omega (arith, ints, s.above, s.below) in
    saturated-here _ _ _ _ _ _ _ (arc_is' d)
    (cost-plain c.reduced-cost.result c.reduced-cost.ensures.size ∙ c.reduced-cost.ensures.value ∙ ap (λ (n : ℕ). reduced (n + 1) c.args.potentials.now c.index.result.now) c.requires.deep.count ∙ ap (reduced (factor c.args.problem.now) c.args.potentials.now) (arc_is' d))
    (p ∙ flow_is' d) c.target_of-target.ensures.saturates

back : (x y : ℤ) → x ≡ y +ℤ (x -ℤ y)
back x y = omega (arith, ints)

pub shift-requires-clause-within : goal.shift-requires-clause-within
shift-requires-clause-within c =
    let d = (goal.at.shift-requires-clause-within c).After-target_of-target in
    let y : ℤ = get_or c.args.self.now.flows.items c.args.index (pos 0) in
    subst (IsWithinCapacity (arc_at c.args.problem.now c.args.index)) (back c.target_of-target.result y ∙ ap (λ (x : ℤ). y +ℤ x) (sym (amount_is d))) (target_within d)

pub returns-then-target-flow-clause-here : goal.returns-then-target-flow-clause-here
returns-then-target-flow-clause-here c =
    let d = (goal.at.returns-then-target-flow-clause-here c).After-target_of-target in
    let problem = c.args.problem.now in
    let flows = c.args.self.now.flows.items in
    let k = known problem flows _ c.args.index c.requires.carried c.requires.index in
    let y : ℤ = get_or flows c.args.index (pos 0) in
    let new : get_or c.shift.new.self.flows.items c.args.index (pos 0) ≡ c.target_of-target.result =
    ap (λ (xs : List ℤ). get_or xs c.args.index (pos 0)) c.shift.ensures.flows ∙ get_or-set_at flows c.args.index c.args.index _ (pos 0) refl k.flow ∙ ap (λ (x : ℤ). y +ℤ x) (amount_is d) ∙ sym (back c.target_of-target.result y) in
    subst (Saturates (reduced (factor problem) c.args.potentials.now (arc_at problem c.args.index)) (arc_at problem c.args.index) y) (sym new) (saturates d)

pub reduced-cost-requires-clause-arc : goal.reduced-cost-requires-clause-arc
reduced-cost-requires-clause-arc c = grind (arith)

pub reduced-cost-requires-clause-deep : goal.reduced-cost-requires-clause-deep
reduced-cost-requires-clause-deep c = grind (arith)

pub returns-else-target-flow-clause-carried : goal.returns-else-target-flow-clause-carried
returns-else-target-flow-clause-carried c = grind (arith)

pub returns-then-target-flow-clause-carried : goal.returns-then-target-flow-clause-carried
returns-then-target-flow-clause-carried c = grind (arith)

pub shift-requires-clause-carried : goal.shift-requires-clause-carried
shift-requires-clause-carried c = grind (arith)

pub target_of-target-requires-clause-arc : goal.target_of-target-requires-clause-arc
target_of-target-requires-clause-arc c = grind (arith)

pub returns-else-target-flow-clause-here : goal.returns-else-target-flow-clause-here
returns-else-target-flow-clause-here c = grind (arith, common_steps)

pub returns-then-target-flow-clause-others : goal.returns-then-target-flow-clause-others
returns-then-target-flow-clause-others c = grind (arith, common_steps)
