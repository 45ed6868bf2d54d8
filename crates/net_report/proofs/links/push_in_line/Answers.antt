use Rattle.std.proofs.Common.{arith}
use Rattle.std.proofs.lemmas.Grind.{common_steps}
use Rattle.net_report.proofs.links.push_in_line.Goals as goal

pub loop-before-preserved : goal.loop-before-preserved
loop-before-preserved c = (c.in-Some.ensures.2, grind (arith, common_steps))

pub returns : goal.returns
returns c = grind (arith, common_steps)
