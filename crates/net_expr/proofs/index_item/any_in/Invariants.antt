use Rattle.std.specs.Prelude.{◌≡◌, drop}
use Rattle.net_tree.specs.View.{links_of}
use Rattle.net_expr.specs.Items.{any_in}
use Rattle.net_expr.proofs.index_item.any_in.Given as goal

abbrev pub invariant-loop-link : goal.invariant-loop-link
invariant-loop-link l = any_in (links_of (drop l.link-index l.links)) ≡ any_in (links_of l.fn.links)
