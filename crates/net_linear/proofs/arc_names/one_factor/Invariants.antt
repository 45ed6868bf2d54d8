use Rattle.std.specs.Prelude.{◌≡◌, drop}
use Rattle.net_tree.specs.View.{links_of}
use Rattle.net_linear.specs.Objectives.{one_factor}
use Rattle.net_linear.proofs.arc_names.one_factor.Given as goal

abbrev pub invariant-loop-link : goal.invariant-loop-link
invariant-loop-link l = one_factor l.arcs l.before (links_of (drop l.link-index l.links)) ≡ one_factor l.fn.arcs l.fn.first (links_of l.fn.links)
