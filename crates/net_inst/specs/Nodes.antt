-- The nodes of declarations, and the nodes that `from` and `to` refer to.
use Rattle.std.specs.Prelude.{ℕ, ◌+◌, List, [], ◌∷◌, ◌++◌, length, nat_eq, nat_lt, Option, None, Some, if◌then◌else◌, Ok}
use Rattle.net_base.specs.declared.diagnostic.Span.{Span}
use Rattle.net_lex.specs.declared.token.Token.{Token}
use Rattle.net_sets.specs.Sets.{Tuple, place_of}
use Rattle.net_tree.specs.Spans.{span_of}
use Rattle.net_tree.specs.Tree.{Tree, Links, leaf, indexed, Braces, Condition}
use Rattle.net_normal.specs.declared.instance.NodeRange.{NodeRange}
use Rattle.net_normal.specs.Limits.{node_limit}
use Rattle.net_base.specs.declared.diagnostic.Detail.{Detail}
use Rattle.net_base.specs.declared.diagnostic.Detail.TheVariants.{Reported}
use Rattle.net_base.specs.declared.error_code.ErrorCode.TheVariants.{KindMismatch, Arity, NoSuchNode, NodeCrossed, TooManyNodes}
use Rattle.net_expr.specs.declared.row.Row.{Row}
use Rattle.net_expr.specs.Worlds.{Name, World, Scope, key_count, reference}
use Rattle.net_linear.specs.declared.key_numbers.KeyNumbers.{KeyNumbers}
use Rattle.net_linear.specs.declared.condition.Sides.{Sides}
use Rattle.net_linear.specs.Arcs.{declared}
use Rattle.net_linear.specs.Conditions.{range_in}
use Rattle.net_linear.specs.Objectives.{key_of}
use Rattle.net_inst.specs.declared.node_name.Group.{Group}
use Rattle.net_expr.specs.declared.indexing.Indexing.{Indexing}
use Rattle.net_inst.specs.Groups.{no_group, group_with}
use Rattle.net_expr.specs.Indexings.{indexing_in}
use Rattle.net_base.specs.Outcomes.{Outcome, and_then, rejected_of, rejected}
use Rattle.net_inst.specs.Rejections.{rejected_name}

-- nodes in order, each with its range of net inflows
pub record BuiltNodes : Type 0 where
  pub ranges : List Sides
  pub group : Group

abbrev pub sides_of : NodeRange → Sides
sides_of r = record { low = r.low; high = r.high }

abbrev pub no_nodes : BuiltNodes
no_nodes = record { ranges = []; group = no_group }

-- a condition that no net inflow satisfies is an error of the node
abbrev pub of_node : Span → Detail → Option Sides → Outcome Sides
of_node at d None = rejected_of NodeCrossed at d
of_node at d (Some r) = Ok r

-- the range of the node at a key
abbrev pub node_sides : World → Token → Option ℕ → Condition → Row → Outcome Sides
node_sides w n k c row = and_then (range_in w row.scope c) (of_node n.span (reference n.text k row.key))

-- adds the node at a key
abbrev pub next_range : World → Token → Option ℕ → Condition → Row → List Sides → Outcome (List Sides)
next_range w n k c row found =
    if nat_lt (length found) node_limit then and_then (node_sides w n k c row) (λ r. Ok (found ++ r ∷ [])) else rejected_name TooManyNodes n

-- adds a node for each key
abbrev pub ranges_at : World → Token → Option ℕ → Condition → List Row → List Sides → Outcome (List Sides)
ranges_at w n k c [] found = Ok found
ranges_at w n k c (row ∷ rows) found = and_then (next_range w n k c row found) (ranges_at w n k c rows)

abbrev pub nodes_by : World → Token → Condition → BuiltNodes → Indexing → Outcome BuiltNodes
nodes_by w n c d i =
    and_then (ranges_at w n i.count c i.rows d.ranges) (λ ranges. Ok (record { ranges = ranges; group = group_with d.group n.text (length d.ranges) i }))

-- adds the nodes of a declaration
abbrev pub with_nodes : World → Token → Option Braces → Condition → BuiltNodes → Outcome BuiltNodes
with_nodes w n b c d = and_then (indexing_in w b) (nodes_by w n c d)

abbrev pub index_within : ℕ → Span → Detail → ℕ → Outcome ℕ
index_within count at d v = if nat_lt v count then Ok v else rejected_of NoSuchNode at d

-- the node with an index in a declaration
abbrev pub numbered : ℕ → Span → Detail → ℕ → Option ℕ → Outcome ℕ
numbered count at d first None = rejected_of NoSuchNode at d
numbered count at d first (Some place) = index_within count at d (first + place)

-- the node with a name and a key
abbrev pub node_at : ℕ → Span → Name → Option KeyNumbers → Tuple → Outcome ℕ
node_at count at name None key = rejected_of NoSuchNode at (Reported name)
node_at count at name (Some k) key =
    if nat_eq (length key) (key_count k.count) then numbered count at (reference name k.count key) k.first (place_of k.keys key) else rejected Arity at

abbrev pub indexed_node : BuiltNodes → World → Scope → Span → Token → Tree → Links → Outcome ℕ
indexed_node d w s at n x l = and_then (key_of w s at x l) (node_at (length d.ranges) at n.text (declared d.group.numbers n.text))

-- a name and its subscripts, if there are any
abbrev pub name_in : Tree → Option (Token × Option (Tree × Links))
name_in (leaf t) = Some (t, None)
name_in (indexed n o x l c) = Some (n, Some (x, l))
name_in _ = None

abbrev pub node_of : BuiltNodes → World → Scope → Span → Token → Option (Tree × Links) → Outcome ℕ
node_of d w s at n None = node_at (length d.ranges) at n.text (declared d.group.numbers n.text) []
node_of d w s at n (Some q) = indexed_node d w s at n q.0 q.1

abbrev pub node_by : BuiltNodes → World → Scope → Span → Option (Token × Option (Tree × Links)) → Outcome ℕ
node_by d w s at None = rejected KindMismatch at
node_by d w s at (Some p) = node_of d w s at p.0 p.1

-- the keys of the declaration that a reference names
abbrev pub named_keys : BuiltNodes → Option (Token × Option (Tree × Links)) → Option KeyNumbers
named_keys d None = None
named_keys d (Some p) = declared d.group.numbers p.0.text

abbrev pub end_keys : BuiltNodes → Option Tree → Option KeyNumbers
end_keys d None = None
end_keys d (Some t) = named_keys d (name_in t)

-- the node of a reference; its subscripts are evaluated first
abbrev pub node_named : BuiltNodes → World → Scope → Tree → Outcome ℕ
node_named d w s t = node_by d w s (span_of t) (name_in t)
