use Rattle.std.proofs.Common.{◌≡◌}
use Rattle.net_solve.specs.Machines.{IsRunning}
use Rattle.net_solve.proofs.scaling.Machine.refine.Given as goal

abbrev pub invariant-loop : goal.invariant-loop
invariant-loop l =
    record {
      running : IsRunning l.problem l.self;
      budget : l.self.budget ≡ l.fn.self.budget;
    }
