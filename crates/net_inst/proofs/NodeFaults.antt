-- What nodes of declarations, and ends of arcs, are refused for stands at the name or at one of the parts.
use Rattle.std.specs.Prelude.{ℕ, ◌+◌, List, [], ◌∷◌, length, nat_eq, nat_lt, Option, None, Some}
use Rattle.net_base.specs.declared.diagnostic.Span.{Span}
use Rattle.net_base.specs.declared.diagnostic.Detail.{Detail}
use Rattle.net_base.specs.Outcomes.{and_then}
use Rattle.net_lex.specs.declared.token.Token.{Token}
use Rattle.net_sets.specs.Sets.{Tuple, place_of}
use Rattle.net_sets.specs.declared.member.Member.{Member}
use Rattle.net_sets.specs.declared.member.Member.TheVariants as members
use Rattle.net_tree.specs.Spans.{span_of}
use Rattle.net_tree.specs.Tree.{Tree, Links, Braces, leaf, indexed, parens, tuple, negated, braced, signed, reduced, chain, choice, net, Condition}
use Rattle.net_expr.specs.declared.row.Row.{Row}
use Rattle.net_expr.specs.Limits.{is_small}
use Rattle.net_expr.specs.Operators as operators
use Rattle.net_expr.specs.Values.{value, index}
use Rattle.net_expr.specs.Worlds.{Name, World, Scope, key_count, reference}
use Rattle.net_linear.specs.declared.key_numbers.KeyNumbers.{KeyNumbers}
use Rattle.net_linear.specs.declared.condition.Sides.{Sides}
use Rattle.net_linear.specs.Arcs.{declared}
use Rattle.net_linear.specs.Conditions.{range_in}
use Rattle.net_linear.specs.Objectives.{key_of}
use Rattle.net_expr.specs.Indexings.{indexing_in}
use Rattle.net_inst.specs.Nodes.{BuiltNodes, of_node, node_sides, next_range, ranges_at, nodes_by, with_nodes, index_within, numbered, node_at, indexed_node, node_named}
use Rattle.net_inst.specs.Numbers.{number_in, number}
use Rattle.net_base.specs.Places.{Places, Finds, Model}
use Rattle.net_tree.specs.Standing.{Stands, LinksStand, ConditionHasSpans, IndexingHasSpans}
use Rattle.net_base.proofs.Found.{finds_then, finds_if}
use Rattle.net_expr.proofs.OperatorFaults.{finds_member}
use Rattle.net_expr.proofs.ValueFaults.{whole_stands, finds_value, finds_index}
use Rattle.net_linear.proofs.ConditionFaults.{finds_range_in}
use Rattle.net_linear.proofs.ObjectiveFaults.{finds_key_of}

module _ (P : Places) (at : Span) (h : P Model at) where
  finds_number_in : (m : Member) → Finds P (number_in at m)
  finds_number_in (members.Number n) = finds_if P (is_small n) _ _ tt h
  finds_number_in (members.Name t) = h

  finds_of_node : (d : Detail) (r : Option Sides) → Finds P (of_node at d r)
  finds_of_node d None = h
  finds_of_node d (Some r) = tt

  finds_among : (count : ℕ) (d : Detail) (v : ℕ) → Finds P (index_within count at d v)
  finds_among count d v = finds_if P (nat_lt v count) _ _ tt h

  finds_numbered : (count : ℕ) (d : Detail) (first : ℕ) (place : Option ℕ) → Finds P (numbered count at d first place)
  finds_numbered count d first None = h
  finds_numbered count d first (Some place) = finds_among count d (first + place)

  finds_node_at : (count : ℕ) (name : Name) (k : Option KeyNumbers) (key : Tuple) → Finds P (node_at count at name k key)
  finds_node_at count name None key = h
  finds_node_at count name (Some k) key =
      finds_if P (nat_eq (length key) (key_count k.count)) _ _ (finds_numbered count (reference name k.count key) k.first (place_of k.keys key)) h

  finds_indexed_node : (d : BuiltNodes) (w : World) (s : Scope) (n : Token) (x : Tree) (l : Links) → Stands (P Model) x → LinksStand (P Model) l → Finds P (indexed_node d w s at n x l)
  finds_indexed_node d w s n x l j k =
      finds_then P (key_of w s at x l) (node_at (length d.ranges) at n.text (declared d.group.numbers n.text)) (finds_key_of P at h w s x l j k)
      (finds_node_at (length d.ranges) n.text (declared d.group.numbers n.text))

module _ (P : Places) where
  pub finds_indexing_in : (w : World) (b : Option Braces) → IndexingHasSpans (P Model) b → Finds P (indexing_in w b)
  finds_indexing_in w None h = tt
  finds_indexing_in w (Some b) h = finds_then P (index w [] b) _ (finds_index P w [] b h) (λ k. tt)

  pub finds_number : (w : World) (s : Scope) (t : Tree) → Stands (P Model) t → Finds P (number w s t)
  finds_number w s t h =
      finds_then P (and_then (value w s t) (operators.member (span_of t))) (number_in (span_of t))
      (finds_then P (value w s t) (operators.member (span_of t)) (finds_value P w s t h) (finds_member P (span_of t) (whole_stands (P Model) t h)))
      (finds_number_in P (span_of t) (whole_stands (P Model) t h))

  pub finds_node_named : (d : BuiltNodes) (w : World) (s : Scope) (t : Tree) → Stands (P Model) t → Finds P (node_named d w s t)
  finds_node_named d w s (leaf t) h = finds_node_at P (span_of (leaf t)) h.0 (length d.ranges) t.text (declared d.group.numbers t.text) []
  finds_node_named d w s (indexed n o x l c) (h, i, j, k) = finds_indexed_node P (span_of (indexed n o x l c)) h d w s n x l j k
  finds_node_named d w s (parens o x c) h = h.0
  finds_node_named d w s (tuple o x l c) h = h.0
  finds_node_named d w s (negated n o x c) h = h.0
  finds_node_named d w s (braced b) h = h.0
  finds_node_named d w s (signed t x) h = h.0
  finds_node_named d w s (reduced r b x) h = h.0
  finds_node_named d w s (chain n x l) h = h.0
  finds_node_named d w s (choice i x t y e) h = h.0
  finds_node_named d w s (net t u) h = h

module _ (P : Places) (w : World) (n : Token) (h : P Model n.span) (c : Condition) (j : ConditionHasSpans (P Model) c) where
  finds_node_sides : (k : Option ℕ) (row : Row) → Finds P (node_sides w n k c row)
  finds_node_sides k row =
      finds_then P (range_in w row.scope c) (of_node n.span (reference n.text k row.key)) (finds_range_in P w row.scope c j) (finds_of_node P n.span h (reference n.text k row.key))

  finds_next_range : (k : Option ℕ) (row : Row) (found : List Sides) → Finds P (next_range w n k c row found)
  finds_next_range k row found = finds_if P (nat_lt (length found) _) _ _ (finds_then P (node_sides w n k c row) _ (finds_node_sides k row) (λ r. tt)) h

  finds_ranges_at : (k : Option ℕ) (rows : List Row) (found : List Sides) → Finds P (ranges_at w n k c rows found)
  finds_ranges_at k [] found = tt
  finds_ranges_at k (row ∷ rows) found = finds_then P (next_range w n k c row found) (ranges_at w n k c rows) (finds_next_range k row found) (finds_ranges_at k rows)

  finds_nodes_by : (d : BuiltNodes) (i : _) → Finds P (nodes_by w n c d i)
  finds_nodes_by d i = finds_then P (ranges_at w n i.count c i.rows d.ranges) _ (finds_ranges_at i.count i.rows d.ranges) (λ ranges. tt)

  pub finds_with_nodes : (b : Option Braces) → IndexingHasSpans (P Model) b → (d : BuiltNodes) → Finds P (with_nodes w n b c d)
  finds_with_nodes b i d = finds_then P (indexing_in w b) (nodes_by w n c d) (finds_indexing_in P w b i) (finds_nodes_by d)
