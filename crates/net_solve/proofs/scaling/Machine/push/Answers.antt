use Rattle.std.proofs.Common.{◌≡◌, get_or, false, ℤ, pos, ◌+ℤ◌, ◌<ℤ◌, to_z, of_z, w64, FitsSigned, rules, sym, ◌∙◌, ap, subst, arith, vec_len}
use Rattle.std.proofs.lemmas.Int.{ints}
use Rattle.net_normal.specs.Limits.{IsSized, flow_limit}
use Rattle.net_normal.specs.Flows.{IsWithinCapacity}
use Rattle.net_solve.specs.Pseudoflows.{no_arc, arc_at, changed}
use Rattle.net_solve.specs.Machines.{IsSendable}
use Rattle.net_solve.proofs.Carrying.{known}
use Rattle.net_solve.proofs.Stepping.{plain, pushed-within, change-sized, sent-sized, running-pushed}
use lib.Signed.{le_z}
use Rattle.net_solve.proofs.scaling.Machine.push.Goals.{After-sendable-amount}
use Rattle.net_solve.proofs.scaling.Machine.push.Goals as goal

-- what the test of the amount shows
sent : (c : After-sendable-amount) → le_z (to_z w64 (of_z w64 c.sendable-amount.result)) (pos 0) ≡ false → IsSendable c.args.problem.now c.args.self.now c.args.index c.args.forwards (to_z w64 (of_z w64 c.sendable-amount.result))
sent c test =
    let f : FitsSigned w64 c.sendable-amount.result = search rules in
    let p = plain c.sendable-amount.result f in
    let some : pos 0 <ℤ c.sendable-amount.result = subst (λ (x : ℤ). pos 0 <ℤ x) p (grind (arith, ints)) in
    subst (IsSendable c.args.problem.now c.args.self.now c.args.index c.args.forwards) (sym p) (c.sendable-amount.ensures some)

sized : (c : After-sendable-amount) → le_z (to_z w64 (of_z w64 c.sendable-amount.result)) (pos 0) ≡ false → IsSized flow_limit (to_z w64 (of_z w64 c.sendable-amount.result))
sized c test =
    let problem = c.args.problem.now in
    let k = known problem c.args.self.now.carried.flows.items _ c.args.index c.requires.running.standing.carried c.requires.index in
    let s = sent c test in
    sent-sized (vec_len problem.supplies) (arc_at problem c.args.index) _ _ c.args.forwards (problem.arcs_fit c.args.index no_arc k.arc) k.within s.some s.room

pub change_of-requires : goal.change_of-requires
change_of-requires c = sized (goal.at.change_of-requires c).After-sendable-amount c.if-amount-le0.false

pub shift-requires-clause-amount : goal.shift-requires-clause-amount
shift-requires-clause-amount c =
    let f : FitsSigned w64 c.change_of.result = search rules in
    subst (IsSized flow_limit) (sym (plain c.change_of.result f ∙ c.change_of.ensures)) (change-sized _ c.args.forwards (sized (goal.at.shift-requires-clause-amount c).After-sendable-amount c.if-amount-le0.false))

pub shift-requires-clause-within : goal.shift-requires-clause-within
shift-requires-clause-within c =
    let problem = c.args.problem.now in
    let f : FitsSigned w64 c.change_of.result = search rules in
    let k = known problem c.args.self.now.carried.flows.items _ c.args.index c.requires.running.standing.carried c.requires.index in
    let s = sent (goal.at.shift-requires-clause-within c).After-sendable-amount c.if-amount-le0.false in
    subst (λ (x : ℤ). IsWithinCapacity (arc_at problem c.args.index) (get_or c.args.self.now.carried.flows.items c.args.index (pos 0) +ℤ x)) (sym (plain c.change_of.result f ∙ c.change_of.ensures))
    (pushed-within (arc_at problem c.args.index) _ _ c.args.forwards k.within s.some s.room)

pub returns-clause-running : goal.returns-clause-running
returns-clause-running c =
    let problem = c.args.problem.now in
    let f : FitsSigned w64 c.change_of.result = search rules in
    let s = sent (goal.at.returns-clause-running c).After-sendable-amount c.if-amount-le0.false in
    running-pushed problem c.args.self.now c.shift.new.self c.args.index c.args.forwards _ c.requires.running c.requires.index s c.if-self.false c.shift.ensures.carried
    (c.shift.ensures.flows ∙ ap (changed c.args.self.now.carried.flows.items c.args.index) (plain c.change_of.result f ∙ c.change_of.ensures))

pub shift-requires-clause-carried : goal.shift-requires-clause-carried
shift-requires-clause-carried c = grind (arith)
