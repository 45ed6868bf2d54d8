-- The nodes and arcs of a model as written, by name and key, and when an assignment is feasible
-- (Fourer, Gay, Kernighan: AMPL, second edition, chapter 15).
use Rattle.std.specs.Prelude.{ℕ, ◌+◌, Bool, false, ◌&&◌, List, [], ◌∷◌, ◌++◌, map, take, Option, None, Some, is_some, if◌then◌else◌, Ok, Err, ℤ, pos, ◌+ℤ◌, ◌-ℤ◌, ◌≤ℤ◌}
use Rattle.std.specs.List.{AllByRecursion, IsDistinct}
use Rattle.std.specs.Str.{bytes_eq}
use Rattle.net_lex.specs.declared.token.Token.{Token}
use Rattle.net_sets.specs.Sets.{Tuple, same_tuple}
use Rattle.net_tree.specs.Spans.{span_of}
use Rattle.net_tree.specs.Tree.{Tree, leaf, indexed, Braces, Condition, Phrase, Declaration, set, param, node, arc}
use Rattle.net_expr.specs.declared.row.Row.{Row}
use Rattle.net_expr.specs.Worlds.{Name, World, Scope}
use Rattle.net_linear.specs.Conditions.{Holds, number_of}
use Rattle.net_linear.specs.Objectives.{key_of}
use Rattle.net_linear.specs.Amounts.{number_or_none}
use Rattle.net_expr.specs.declared.indexing.Indexing.{Indexing}
use Rattle.net_inst.specs.declared.network_names.Declared.{Declared}
use Rattle.net_expr.specs.Indexings.{indexing_in}
use Rattle.net_base.specs.Outcomes.{Outcome}
use Rattle.net_inst.specs.Phrases.{Parts, parts_of}

-- the identity of a node or an arc: its declared name, whether it is indexed, and its key, which is
-- empty if it is not
pub record WrittenLabel : Type 0 where
  pub name : Name
  pub indexed : Bool
  pub key : Tuple

-- the node at a key: the sets and parameters visible to its declaration, the dummies that the key
-- binds, and its condition
pub record WrittenNode : Type 0 where
  pub label : WrittenLabel
  pub env : World
  pub scope : Scope
  pub condition : Condition

-- the arc at a key, with the bounds and ends from its phrases, and all its phrases
pub record WrittenArc : Type 0 where
  pub label : WrittenLabel
  pub env : World
  pub scope : Scope
  pub parts : Parts
  pub phrases : List Phrase

-- the keys of a declaration, each with the dummies that it binds; empty on an error, which the
-- field `has_network` of `IsBuilt` excludes
abbrev pub rows_of : Outcome Indexing → List Row
rows_of (Ok i) = i.rows
rows_of (Err r) = []

abbrev pub label_at : Token → Option Braces → Row → WrittenLabel
label_at n b row = record { name = n.text; indexed = is_some b; key = row.key }

abbrev pub node_at_row : World → Token → Option Braces → Condition → Row → WrittenNode
node_at_row w n b c row = record { label = label_at n b row; env = w; scope = row.scope; condition = c }

abbrev pub arc_at_row : World → Token → Option Braces → List Phrase → Parts → Row → WrittenArc
arc_at_row w n b ps p row = record { label = label_at n b row; env = w; scope = row.scope; parts = p; phrases = ps }

-- the nodes of a declaration, one for each key
abbrev pub nodes_of : World → Declaration → List WrittenNode
nodes_of w (node t n b c e) = map (node_at_row w n b c) (rows_of (indexing_in w b))
nodes_of w _ = []

-- the arcs with these phrases, one for each key; none if the phrases have an error
abbrev pub arcs_with : World → Token → Option Braces → List Phrase → Outcome Parts → List WrittenArc
arcs_with w n b ps (Ok p) = map (arc_at_row w n b ps p) (rows_of (indexing_in w b))
arcs_with w n b ps (Err r) = []

-- the arcs of a declaration, one for each key
abbrev pub arcs_of : World → Declaration → List WrittenArc
arcs_of w (arc t n b ps e) = arcs_with w n b ps (parts_of n ps)
arcs_of w _ = []

-- The number of sets and parameters that are visible after a declaration. A world has them in order
-- of declaration, so those visible to a declaration are its first k entries.
abbrev pub known_after : ℕ → Declaration → ℕ
known_after k (set t n ps e) = k + 1
known_after k (param t n b ps e) = k + 1
known_after k _ = k

-- the concatenated results of f for all declarations; the first one sees the first k sets and
-- parameters of the world, each later one also those declared in between
abbrev pub in_order : {A : Type 0} → (World → Declaration → List A) → World → ℕ → List Declaration → List A
in_order f w k [] = []
in_order f w k (d ∷ ds) = f (take k w) d ++ in_order f w (known_after k d) ds

-- the nodes (`nodes`) and the arcs (`arcs`) of a model in its world
abbrev pub nodes : World → List Declaration → List WrittenNode
nodes w ds = in_order nodes_of w 0 ds

abbrev pub arcs : World → List Declaration → List WrittenArc
arcs w ds = in_order arcs_of w 0 ds

-- the declared names, each with whether it is indexed
abbrev pub node_declared : Declaration → List Declared
node_declared (node t n b c e) = (record { name = n.text; indexed = is_some b }) ∷ []
node_declared _ = []

abbrev pub arc_declared : Declaration → List Declared
arc_declared (arc t n b ps e) = (record { name = n.text; indexed = is_some b }) ∷ []
arc_declared _ = []

-- equal names and equal keys; `indexed` follows from the name, because no name is declared twice
abbrev pub same_label : WrittenLabel → WrittenLabel → Bool
same_label l m = bytes_eq l.name m.name && same_tuple l.key m.key

pub record AreDistinct (ns : List WrittenNode) (all : List WrittenArc) : Type 0 where
  pub nodes : IsDistinct same_label (map (λ n. n.label) ns)
  pub arcs : IsDistinct same_label (map (λ a. a.label) all)

-- an assignment: an integer for each name and key of an arc
abbrev pub Assignment : Type 0
Assignment = Name → Tuple → ℤ

-- the value of an arc
abbrev pub number_on : Assignment → WrittenArc → ℤ
number_on x a = x a.label.name a.label.key

abbrev pub numbers_on : Assignment → List WrittenArc → List ℤ
numbers_on x all = map (number_on x) all

-- the assignment of these numbers to these labels, in order
abbrev pub by_label : List WrittenLabel → List ℤ → Assignment
by_label [] numbers n key = pos 0
by_label (l ∷ ls) [] n key = pos 0
by_label (l ∷ ls) (y ∷ ys) n key = if bytes_eq l.name n && same_tuple l.key key then y else by_label ls ys n key

abbrev pub with_key : Name → Outcome Tuple → Option (Name × Tuple)
with_key n (Ok key) = Some (n, key)
with_key n (Err r) = None

-- the name and the evaluated subscripts of a reference
abbrev pub reference_in : World → Scope → Tree → Option (Name × Tuple)
reference_in w s (leaf t) = Some (t.text, [])
reference_in w s (indexed n o x l c) = with_key n.text (key_of w s (span_of (indexed n o x l c)) x l)
reference_in w s _ = None

abbrev pub end_of : World → Scope → Option Tree → Option (Name × Tuple)
end_of w s None = None
end_of w s (Some t) = reference_in w s t

-- the node of the arc's `from` phrase (`from_end`) and of its `to` phrase (`to_end`)
abbrev pub from_end : WrittenArc → Option (Name × Tuple)
from_end a = end_of a.env a.scope a.parts.tail

abbrev pub to_end : WrittenArc → Option (Name × Tuple)
to_end a = end_of a.env a.scope a.parts.head

abbrev pub is_named : WrittenLabel → Option (Name × Tuple) → Bool
is_named l None = false
is_named l (Some r) = bytes_eq r.0 l.name && same_tuple r.1 l.key

-- the total value of the arcs whose end is the node; the function `end` is `from_end` or `to_end`
abbrev pub flow_at_ends : (WrittenArc → Option (Name × Tuple)) → WrittenLabel → List WrittenArc → Assignment → ℤ
flow_at_ends end v [] x = pos 0
flow_at_ends end v (a ∷ all) x = (if is_named v (end a) then number_on x a else pos 0) +ℤ flow_at_ends end v all x

-- inflow minus outflow of a node
abbrev pub net_inflow : List WrittenArc → Assignment → WrittenLabel → ℤ
net_inflow all x v = flow_at_ends to_end v all x -ℤ flow_at_ends from_end v all x

-- the value of an expression without arcs; 0 on an error, which `has_network` of `IsBuilt` excludes
abbrev pub amount : World → Scope → Tree → ℤ
amount w s t = number_of (number_or_none w s t)

pub record IsWithin (x : Assignment) (a : WrittenArc) : Type 0 where
  pub lower : amount a.env a.scope a.parts.lower ≤ℤ number_on x a
  pub upper : number_on x a ≤ℤ amount a.env a.scope a.parts.upper

-- the condition of the node is true for its net inflow
abbrev pub IsMet : List WrittenArc → Assignment → WrittenNode → Type 0
IsMet all x n = Holds n.env n.scope n.condition (net_inflow all x n.label)

-- each arc is within its bounds, and each node's condition is true
pub record IsFeasible (ns : List WrittenNode) (all : List WrittenArc) (x : Assignment) : Type 0 where
  pub bounds : AllByRecursion (IsWithin x) all
  pub conditions : AllByRecursion (IsMet all x) ns
