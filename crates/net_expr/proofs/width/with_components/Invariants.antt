use Rattle.std.specs.Prelude.{◌≡◌, drop}
use Rattle.net_tree.specs.View.{links_of}
use Rattle.net_expr.specs.Widths.{with_components}
use Rattle.net_expr.proofs.width.with_components.Given as goal

abbrev pub invariant-loop-link : goal.invariant-loop-link
invariant-loop-link l = with_components l.env l.form (links_of (drop l.link-index l.links)) ≡ with_components l.fn.env l.fn.form (links_of l.fn.links)
