use Rattle.net_solve.proofs.Ends.{run-cut}
use Rattle.net_solve.proofs.scaling.Scaling.cut_off.Goals as goal

pub returns-in-Yes : goal.returns-in-Yes
returns-in-Yes c = run-cut c.args.problem.now c.args.self.now.budget c.args.cut.flags c.args.cut.side (c.check.ensures.yes.0 c.in-Yes.is)
