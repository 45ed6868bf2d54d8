-- Iteration over the items of an indexing expression: the state at each item that is not yet
-- finished.
use Rattle.std.specs.Prelude.{◌≡◌, ℕ, ◌+◌, List, [], ◌∷◌, Option, None, Some, Result, Ok, Err, ⊤}
use Rattle.net_base.specs.declared.diagnostic.Span.{Span}
use Rattle.net_sets.specs.Components.{sought}
use Rattle.net_sets.specs.Sets.{Tuple}
use Rattle.net_tree.specs.Tree.{Links, none, link}
use Rattle.net_tree.specs.View.{tree, links_of}
use Rattle.net_tree.specs.Weights.{weight, weights}
use Rattle.net_base.specs.declared.diagnostic.Fault.{Fault}
use Rattle.net_base.specs.declared.diagnostic.Fault.TheVariants.{OutOfMemory, At}
use Rattle.net_expr.specs.declared.keys.Frame.{Frame}
use Rattle.net_expr.specs.declared.row.PartialRow.{PartialRow}
use Rattle.net_expr.specs.declared.row.Row.{Row}
use Rattle.net_base.specs.Outcomes.{Outcome, each}
use Rattle.net_expr.specs.Rows.{onward}
use Rattle.net_expr.specs.Selecting.{selecting}
use Rattle.net_expr.specs.Values.{place, walk}
use Rattle.net_expr.specs.Walks.{item_tuples}
use Rattle.net_expr.specs.Worlds.{World}

-- the rows from the remaining tuples of an item, appended to the rows found so far
abbrev pub still : Span → World → Frame → List Row → Outcome (List Row)
still at w f found = each (onward (place w (tree f.item.now)) (walk at w (links_of f.more.now)) f.partial) f.left found

-- the number of tuples tried by the following items, plus one for each time that an item is
-- finished
abbrev pub steps_next : (PartialRow → ℕ) → Outcome (Option PartialRow) → ℕ
steps_next next (Ok (Some p)) = next p
steps_next next _ = 0

abbrev pub steps_of : (Tuple → Outcome (Option PartialRow)) → (PartialRow → ℕ) → List Tuple → ℕ
steps_of lead next [] = 1
steps_of lead next (t ∷ ts) = 1 + steps_next next (lead t) + steps_of lead next ts

abbrev pub of_tuples : (List Tuple → ℕ) → Outcome (List Tuple) → ℕ
of_tuples steps (Ok ts) = steps ts
of_tuples steps _ = 0

abbrev pub steps : Span → World → Links → PartialRow → ℕ
steps at w none p = 0
steps at w (link o i is) p = of_tuples (λ ts. steps_of (λ t. place w i t p) (steps at w is) (sought (selecting w p.scope i) ts)) (item_tuples at w p.scope i)

abbrev pub steps_still : Span → World → Frame → ℕ
steps_still at w f = steps_of (λ t. place w (tree f.item.now) t f.partial) (steps at w (links_of f.more.now)) f.left

abbrev pub weight_of : Frame → ℕ
weight_of f = weight (tree f.item.now) + weights (links_of f.more.now)

-- the result is found, or it is what an item still produces, appended to `found`
abbrev pub Leads : Span → World → Outcome (List Row) → Result (Option Frame) Fault → List Row → Type 0
Leads at w wanted (Ok None) found = wanted ≡ Ok found
Leads at w wanted (Ok (Some f)) found = wanted ≡ still at w f found
Leads at w wanted (Err OutOfMemory) found = ⊤
Leads at w wanted (Err (At r)) found = wanted ≡ Err r
