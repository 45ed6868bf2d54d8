use Rattle.std.proofs.Common.{◌≡◌}
use Rattle.net_solve.specs.Machines.{IsRunning}
use Rattle.net_solve.proofs.scaling.Machine.push_out.Given as goal

abbrev pub invariant-loop-place : goal.invariant-loop-place
invariant-loop-place l =
    record {
      running : IsRunning l.problem l.self;
      budget : l.self.budget ≡ l.fn.self.budget;
    }
