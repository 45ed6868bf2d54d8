use Rattle.std.specs.Prelude.{length}
use Rattle.std.proofs.Common.{ap}
use Rattle.net_sets.proofs.Reading.{none_there, some_there}
use Rattle.net_sets.proofs.number_run.NumberRun.width_at.Goals as goal

pub returns-in-None-clause-value : goal.returns-in-None-clause-value
returns-in-None-clause-value c = ap length (none_there c.args.self.now c.args.position c.in-None.ensures)

pub returns-in-Some-clause-value : goal.returns-in-Some-clause-value
returns-in-Some-clause-value c = ap length (some_there c.args.self.now c.args.position _ c.in-Some.ensures)
