use Rattle.std.proofs.Common.{ℕ, ◌+◌, ◌/◌, ◌^◌, max, ◌<◌, ◌≤◌, List, ℤ, pos, FitsSigned, w64, rules, ◌∙◌, ap, subst, arith}
use Rattle.net_solve.specs.Runs.{Begins}
use Rattle.net_solve.specs.Machines.{state_of}
use Rattle.net_solve.proofs.Stepping.{plain}
use Rattle.net_solve.proofs.Phases.{phases-next, running-begun}
use Rattle.net_solve.proofs.scaling.Machine.begin.Goals.{After-saturate_all}
use Rattle.net_solve.proofs.scaling.Machine.begin.Goals as goal

few : (c : After-saturate_all) → c.args.self.now.phases + 1 ≤ 55
few c = phases-next c.args.problem.now 55 c.args.self.now.phases c.args.self.now.steps (state_of c.args.self.now) (omega arith) (subst (λ (n : ℕ). n < 2 ^ 55) c.requires.scale c.requires.size) c.requires.may

pub overflow_add-self : goal.overflow_add-self
overflow_add-self c = let f = few (goal.at.overflow_add-self c).After-saturate_all in omega (arith, f)

pub epsilon_of-self-requires-clause-phase : goal.epsilon_of-self-requires-clause-phase
epsilon_of-self-requires-clause-phase c = let f = few (goal.at.epsilon_of-self-requires-clause-phase c).After-saturate_all in omega (arith, f)

pub returns-clause-running : goal.returns-clause-running
returns-clause-running c =
    let problem = c.args.problem.now in
    let f : FitsSigned w64 c.epsilon_of-self.result = search rules in
    running-begun problem c.args.self.now c.saturate_all.new.self _ c.requires.standing c.requires.may c.saturate_all.ensures.carried
    (subst (λ (ps : List ℤ). Begins problem (record { flows = c.args.self.now.carried.flows.items; potentials = ps }) (record { flows = c.saturate_all.new.self.flows.items; potentials = ps })) c.deref.ensures.value c.saturate_all.ensures.begins)
    (plain c.epsilon_of-self.result f ∙ c.epsilon_of-self.ensures ∙ ap (λ (n : ℕ). pos (max 1 (n / 2 ^ (c.args.self.now.phases + 1)))) c.requires.scale)

pub saturate_all-requires-clause-carried : goal.saturate_all-requires-clause-carried
saturate_all-requires-clause-carried c = grind (arith)

pub saturate_all-requires-clause-deep : goal.saturate_all-requires-clause-deep
saturate_all-requires-clause-deep c = grind (arith)
