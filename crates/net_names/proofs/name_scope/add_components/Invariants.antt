use Rattle.std.proofs.Common.{◌≡◌, drop}
use Rattle.net_tree.specs.View.{links_of}
use Rattle.net_names.specs.Dummies.{with_components}
use Rattle.net_names.proofs.name_scope.add_components.Given as goal

abbrev pub invariant-loop-link : goal.invariant-loop-link
invariant-loop-link l = with_components l.scope (links_of (drop l.link-index l.links)) ≡ with_components l.fn.scope (links_of l.fn.links)
