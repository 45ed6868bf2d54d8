use Rattle.net_linear.proofs.Positions.{place_below}
use Rattle.net_linear.proofs.key_numbers.numbered.Goals as goal

pub at-requires : goal.at-requires
at-requires c = place_below c.args.arcs.now.keys c.args.key c.in-Some.place c.in-Some.ensures
