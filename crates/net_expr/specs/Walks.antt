-- The steps of the definition of values, one by one.
use Rattle.std.specs.Prelude.{Bool, ◌||◌, List, [], ◌∷◌, Option, None, Some, if◌then◌else◌, Ok}
use Rattle.net_base.specs.declared.diagnostic.Span.{Span}
use Rattle.net_sets.specs.Sets.{Tuple}
use Rattle.net_tree.specs.Spans.{span_of}
use Rattle.net_tree.specs.Tree.{Tree, Links, Part}
use Rattle.net_base.specs.declared.error_code.ErrorCode.TheVariants.{KindMismatch}
use Rattle.net_tree.specs.declared.operator.BinOp.{BinOp}
use Rattle.net_expr.specs.declared.value.Value.{Value}
use Rattle.net_expr.specs.declared.row.PartialRow.{PartialRow}
use Rattle.net_expr.specs.declared.row.Keys.{Keys}
use Rattle.net_base.specs.Outcomes.{Outcome, and_then, rejected, each}
use Rattle.net_expr.specs.Worlds.{World, Scope}
use Rattle.net_expr.specs.Operators.{apply, decided}
use Rattle.net_expr.specs.Items.{sides, any_in, has_part, new_dummy, needed, chosen, tuples_of, is_set}
use Rattle.net_expr.specs.Rows.{start, with_key, match_component, if_fits, onward, selected, no_keys, listed}
use Rattle.net_expr.specs.Widths.{width_by_form}
use Rattle.net_expr.specs.Values.{value, values, place, left_place, places, walk, holds, either}

-- the value after one more link
abbrev pub joined : Span → BinOp → Outcome Value → Value → Outcome Value
joined at o x v = and_then (decided o at v) (either (λ u. Ok u) (and_then x (apply o at v)))

abbrev pub no_items : Span → Bool → Outcome Keys
no_items at conditioned = if conditioned then rejected KindMismatch at else Ok no_keys

-- the keys that items produce, from the tuples of the first one
abbrev pub walked : Span → World → Scope → Tree → Links → Part → List Tuple → Outcome Keys
walked at w s i is p ts =
    and_then (each (onward (place w i) (walk at w is) (start s)) ts []) (selected (width_by_form at w s i is) (λ q. holds at w q p))

-- the keys of braces whose first item has this value
abbrev pub opened_keys : Span → World → Scope → Tree → Links → Part → Value → Outcome Keys
opened_keys at w s i is p v =
    if any_in is || is_set v then and_then (tuples_of at v) (walked at w s i is p) else and_then (values w s is (v ∷ [])) (listed at s (has_part p))

-- the tuples of the set after `in`, by the two sides of an item
abbrev pub by_sides : Span → World → Scope → Tree → Option (Tree × Tree) → Outcome (List Tuple)
by_sides at w s i None = and_then (value w s i) (tuples_of at)
by_sides at w s i (Some p) = and_then (value w s p.1) (chosen (span_of i) (needed p.0))

abbrev pub item_tuples : Span → World → Scope → Tree → Outcome (List Tuple)
item_tuples at w s i = by_sides at w s i (sides i)

abbrev pub keys_by_sides : Span → World → Scope → Tree → Links → Part → Option (Tree × Tree) → Outcome Keys
keys_by_sides at w s i is p None = and_then (value w s i) (opened_keys at w s i is p)
keys_by_sides at w s i is p (Some q) = and_then (and_then (value w s q.1) (chosen (span_of i) (needed q.0))) (walked at w s i is p)

abbrev pub index_items : Span → World → Scope → Tree → Links → Part → Outcome Keys
index_items at w s i is p = keys_by_sides at w s i is p (sides i)

-- the state after an item with these sides
abbrev pub placed : World → Tree → Tuple → PartialRow → Option (Tree × Tree) → Outcome (Option PartialRow)
placed w i t p None = Ok (Some (with_key t p))
placed w i t p (Some q) = left_place (span_of i) w q.0 (value w p.scope q.0) t p

-- matches the components of a tuple with the members
abbrev pub component_places : Span → World → Tree → Links → Tuple → PartialRow → Outcome (Option PartialRow)
component_places at w x l [] p = Ok (Some p)
component_places at w x l (m ∷ ms) p = and_then (match_component at (new_dummy w p.scope x) (value w p.scope x) m p) (if_fits (places at w l ms))
