-- The error of an item in an indexing expression, from its two sides.
use Rattle.std.specs.Prelude.{Option, None, Some, if◌then◌else◌}
use Rattle.net_tree.specs.Tree.{Tree, Links, Part, Declaration, set, param, check, node, arc, objective}
use Rattle.net_names.specs.declared.meaning.Need.{Need}
use Rattle.net_names.specs.Scopes.{NameScope}
use Rattle.net_names.specs.Reported.{Fault, first}
use Rattle.net_names.specs.Dummies.{sides, is_new, with_item, with_items, with_indexing}
use Rattle.net_names.specs.Names.{tree_fault, components_fault, items_fault, part_fault, is_tuple}

abbrev pub component_fault : Need → NameScope → Tree → Option Fault
component_fault n s x = if is_new s x then None else tree_fault n s x

abbrev pub left_fault : Need → NameScope → Tree → Option Fault
left_fault n s x = if is_tuple x then components_fault n s x else component_fault n s x

abbrev pub by_sides : Need → NameScope → Tree → Option (Tree × Tree) → Option Fault
by_sides n s x None = tree_fault n s x
by_sides n s x (Some p) = first (left_fault n s p.0) (tree_fault n s p.1)

abbrev pub item_fault : Need → NameScope → Tree → Option Fault
item_fault n s x = by_sides n s x (sides x)

-- the first error in the items and the condition of an indexing expression
abbrev pub items_and_part : Need → NameScope → Tree → Links → Part → Option Fault
items_and_part n s x l p = first (item_fault n s x) (first (items_fault n (with_item s x) l) (part_fault n (with_items (with_item s x) l) p))

-- the scope with the dummies of a declaration
abbrev pub with_dummies : NameScope → Declaration → NameScope
with_dummies s (set w t ps e) = s
with_dummies s (param w t b ps e) = with_indexing s b
with_dummies s (check w b m x e) = with_indexing s b
with_dummies s (node w t b c e) = with_indexing s b
with_dummies s (arc w t b ps e) = with_indexing s b
with_dummies s (objective w t p e) = s
