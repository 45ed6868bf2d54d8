use Rattle.std.specs.Prelude.{◌≡◌, drop}
use Rattle.net_tree.specs.View.{links_of}
use Rattle.net_linear.specs.NetTerms.{net_terms}
use Rattle.net_linear.proofs.net_term.net_terms.Given as goal

abbrev pub invariant-loop-link : goal.invariant-loop-link
invariant-loop-link l = net_terms (links_of (drop l.link-index l.links)) l.so_far ≡ net_terms (links_of l.fn.links) l.fn.first
