-- The text written for a problem (First DIMACS Implementation Challenge, minimum-cost flow): plain
-- decimals, one space between fields, no comments.
use Rattle.std.specs.Prelude.{ℕ, zero, suc, ◌+◌, ℤ, pos, negsuc, List, [], ◌∷◌, ◌++◌, length, codes}
use Rattle.std.specs.List.{flat_map}
use Rattle.std.specs.Fmt.{signed_decimal}
use Rattle.net_normal.specs.declared.problem.FlowArc.{FlowArc}

-- numbers, each after a space
abbrev pub row : List ℤ → List ℕ
row [] = []
row (z ∷ zs) = 32 ∷ (signed_decimal z ++ row zs)

-- a line: its kind, its numbers, LF
abbrev pub line : List ℕ → List ℤ → List ℕ
line kind zs = kind ++ (row zs ++ 10 ∷ [])

-- a node's number, counted from 1, from its index, counted from 0
abbrev pub node_number : ℕ → ℤ
node_number v = pos (v + 1)

abbrev pub head_line : List ℤ → List FlowArc → List ℕ
head_line supplies arcs = line (codes "p min") (pos (length supplies) ∷ pos (length arcs) ∷ [])

-- the line of node v; empty if its supply is 0
abbrev pub node_line : ℕ → ℤ → List ℕ
node_line v (pos zero) = []
node_line v (pos (suc n)) = line (codes "n") (node_number v ∷ pos (suc n) ∷ [])
node_line v (negsuc n) = line (codes "n") (node_number v ∷ negsuc n ∷ [])

-- the lines of the nodes from v on
abbrev pub node_lines : ℕ → List ℤ → List ℕ
node_lines v [] = []
node_lines v (z ∷ zs) = node_line v z ++ node_lines (v + 1) zs

abbrev pub arc_line : FlowArc → List ℕ
arc_line arc = line (codes "a") (node_number arc.src ∷ node_number arc.dst ∷ arc.low ∷ arc.cap ∷ arc.cost ∷ [])

abbrev pub problem_text : List ℤ → List FlowArc → List ℕ
problem_text supplies arcs = head_line supplies arcs ++ (node_lines 0 supplies ++ flat_map arc_line arcs)
