use Rattle.std.proofs.Common.{refl}
use Rattle.net_solve.proofs.Ends.{run-ended}
use Rattle.net_solve.proofs.scaling.Machine.ended.Goals as goal

pub returns : goal.returns
returns c = run-ended c.args.problem.now c.args.self c.args.self.budget c.in_ok-answer.answer c.requires.running.standing refl c.requires c.in_ok-answer.ensures.certificate c.in_ok-answer.ensures.flows c.in_ok-answer.ensures.from_zero
