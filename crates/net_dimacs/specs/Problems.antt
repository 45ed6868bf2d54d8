-- Which problem a DIMACS file contains (First DIMACS Implementation Challenge, minimum-cost flow).
use Rattle.std.specs.Prelude.{◌≡◌, ◌≢◌, ℕ, ◌+◌, ◌<◌, ◌==◌, if◌then◌else◌, List, [], ◌∷◌, ◌++◌, length, map, filter_map, slice_index_or, ℤ, pos, IsOk}
use Rattle.std.specs.List.{AllByRecursion}
use Rattle.std.specs.Str.Lines.{lines}
use Rattle.net_normal.specs.Limits.{IsWithinLimits}
use Rattle.net_normal.specs.declared.problem.FlowArc.{FlowArc}
use Rattle.net_dimacs.specs.declared.problem_line.LineStatement.{LineStatement}
use Rattle.net_dimacs.specs.declared.problem_line.LineStatement.TheVariants.{Problem, Node, Arc}
use Rattle.net_dimacs.specs.Reading.{line_statement, new_sketch}

-- the meaning of all lines except blank lines and comments
abbrev pub statements_of : List ℕ → List LineStatement
statements_of text = filter_map line_statement (lines text)

-- the first of these statements can begin a problem: a `p` line with counts within the limits
abbrev pub BeginsProblem : List LineStatement → Type 0
BeginsProblem (Problem nodes arcs ∷ more) = IsOk (new_sketch nodes arcs)
BeginsProblem says = ⊥

-- a node, counted from 0, and its supply
abbrev pub Named : Type 0
Named = ℕ × ℤ

abbrev pub node_statement : Named → LineStatement
node_statement n = Node (pos (n.0 + 1)) n.1

abbrev pub arc_statement : FlowArc → LineStatement
arc_statement arc = Arc (pos (arc.src + 1)) (pos (arc.dst + 1)) arc.low arc.cap arc.cost

-- no node occurs twice
abbrev pub AreDistinct : List Named → Type 0
AreDistinct [] = Unit {0}
AreDistinct (n ∷ ns) = AllByRecursion (λ m. m.0 ≢ n.0) ns × AreDistinct ns

-- the supply of a node after these lines, starting from `supply`
abbrev pub supply_after : List Named → ℕ → ℤ → ℤ
supply_after [] node supply = supply
supply_after (n ∷ ns) node supply = supply_after ns node (if n.0 == node then n.1 else supply)

-- the file contains this problem: its counts, then the supplies of some nodes, each at most once,
-- then its arcs in order; nodes without a line have supply 0
pub record IsProblemText (text : List ℕ) (supplies : List ℤ) (arcs : List FlowArc) : Type 0 where
  pub named : List Named
  pub says : statements_of text ≡ Problem (pos (length supplies)) (pos (length arcs)) ∷ (map node_statement named ++ map arc_statement arcs)
  pub nodes : AllByRecursion (λ n. n.0 < length supplies) named
  pub distinct : AreDistinct named
  pub supply : (node : ℕ) → node < length supplies → slice_index_or supplies node (pos 0) ≡ supply_after named node (pos 0)

-- the file contains no problem within the limits
abbrev pub IsNoProblemText : List ℕ → Type 0
IsNoProblemText text = (supplies : List ℤ) (arcs : List FlowArc) → IsWithinLimits supplies arcs → IsProblemText text supplies arcs → ⊥

-- the file contains no other problem
abbrev pub IsOnlyProblem : List ℕ → List ℤ → List FlowArc → Type 0
IsOnlyProblem text supplies arcs = (others : List ℤ) (other_arcs : List FlowArc) → IsProblemText text others other_arcs → (others ≡ supplies) × (other_arcs ≡ arcs)
