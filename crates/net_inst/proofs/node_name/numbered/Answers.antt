use Rattle.std.proofs.Common.{arith}
use Rattle.std.proofs.lemmas.Grind.{common_steps}
use Rattle.net_inst.proofs.Steps.{place_below}
use Rattle.net_inst.proofs.node_name.numbered.Goals as goal

pub at-requires : goal.at-requires
at-requires c = place_below c.args.numbers.now.keys c.args.key c.in-Some.place c.in-Some.ensures

pub returns-in-Some : goal.returns-in-Some
returns-in-Some c = grind (arith, common_steps)
