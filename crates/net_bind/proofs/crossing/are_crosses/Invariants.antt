use Rattle.std.specs.Prelude.{◌≡◌, drop}
use Rattle.net_tree.specs.View.{links_of}
use Rattle.net_bind.specs.Factors.{are_crosses}
use Rattle.net_bind.proofs.crossing.are_crosses.Given as goal

abbrev pub invariant-loop-link : goal.invariant-loop-link
invariant-loop-link l = are_crosses (links_of (drop l.link-index l.links)) ≡ are_crosses (links_of l.fn.links)
