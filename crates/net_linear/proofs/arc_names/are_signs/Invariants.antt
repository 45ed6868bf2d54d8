use Rattle.std.specs.Prelude.{◌≡◌, drop}
use Rattle.net_tree.specs.View.{links_of}
use Rattle.net_linear.specs.Objectives.{are_signs}
use Rattle.net_linear.proofs.arc_names.are_signs.Given as goal

abbrev pub invariant-loop-link : goal.invariant-loop-link
invariant-loop-link l = are_signs (links_of (drop l.link-index l.links)) ≡ are_signs (links_of l.fn.links)
