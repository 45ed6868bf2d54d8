use Rattle.std.specs.Prelude.{◌≡◌, drop}
use Rattle.net_tree.specs.View.{links_of}
use Rattle.net_bind.specs.Factors.{with_factors}
use Rattle.net_bind.proofs.crossing.with_factors.Given as goal

abbrev pub invariant-loop-link : goal.invariant-loop-link
invariant-loop-link l = with_factors l.fn.at l.fn.env (links_of (drop l.link-index l.links)) l.all ≡ with_factors l.fn.at l.fn.env (links_of l.fn.links) l.fn.first
