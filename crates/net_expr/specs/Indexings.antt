-- The keys of a declaration.
use Rattle.std.specs.Prelude.{[], ◌∷◌, Option, None, Some, Ok}
use Rattle.net_tree.specs.Tree.{Braces}
use Rattle.net_expr.specs.declared.row.Keys.{Keys}
use Rattle.net_expr.specs.Sets.{counted}
use Rattle.net_expr.specs.Values.{index}
use Rattle.net_expr.specs.Worlds.{World}
use Rattle.net_expr.specs.declared.indexing.Indexing.{Indexing}
use Rattle.net_base.specs.Outcomes.{Outcome, and_then}

-- a declaration without indexing has one empty key
abbrev pub alone : Indexing
alone = record { count = None; rows = (record { key = []; scope = [] }) ∷ [] }

abbrev pub by_keys : Keys → Indexing
by_keys k = record { count = Some (counted k.width); rows = k.rows }

abbrev pub indexing_in : World → Option Braces → Outcome Indexing
indexing_in w None = Ok alone
indexing_in w (Some b) = and_then (index w [] b) (λ k. Ok (by_keys k))
