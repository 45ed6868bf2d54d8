use Rattle.std.specs.Prelude.{◌≡◌, drop}
use Rattle.net_tree.specs.View.{links_of}
use Rattle.net_linear.specs.NetTerms.{are_terms}
use Rattle.net_linear.proofs.net_term.are_terms.Given as goal

abbrev pub invariant-loop-link : goal.invariant-loop-link
invariant-loop-link l = are_terms (links_of (drop l.link-index l.links)) ≡ are_terms (links_of l.fn.links)
