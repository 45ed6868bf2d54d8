-- Links appended to links that were read before.
use Rattle.std.specs.Prelude.{Ok, Err}
use Rattle.net_tree.specs.Tree.{Links, none, link}
use Rattle.net_model.specs.Reading.{Read}

abbrev pub joined : Links → Links → Links
joined none l = l
joined (link o x k) l = link o x (joined k l)

abbrev pub with_links : Links → Read Links → Read Links
with_links before (Ok l) = Ok (joined before l.0, l.1)
with_links before (Err e) = Err e
