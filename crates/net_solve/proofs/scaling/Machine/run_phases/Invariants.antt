use Rattle.std.proofs.Common.{◌≡◌}
use Rattle.net_solve.specs.Runs.{MayBegin}
use Rattle.net_solve.specs.Machines.{IsConsistent, state_of}
use Rattle.net_solve.proofs.scaling.Machine.run_phases.Given as goal

abbrev pub invariant-loop : goal.invariant-loop
invariant-loop l =
    record {
      standing : IsConsistent l.problem l.self;
      may : MayBegin l.problem l.self.phases (state_of l.self);
      budget : l.self.budget ≡ l.fn.self.budget;
    }
