-- Reading a DIMACS file line by line, up to the first error (First DIMACS Implementation Challenge,
-- minimum-cost flow).
use Rattle.std.specs.Prelude.{◌≡◌, ℕ, ◌+◌, ◌-◌, Bool, true, false, ◌||◌, ◌&&◌, ◌==◌, nat_le, nat_lt, if◌then◌else◌, List, [], ◌∷◌, ◌++◌, length, replicate, map, slice_index_or, slice_set, ℤ, pos, neg_ℤ, unsigned_abs, int_lt, int_le, Option, Some, None, Result, Ok, Err}
use Rattle.std.specs.Str.Lines.{lines}
use Rattle.net_normal.specs.Limits.{flow_node_limit, flow_arc_limit, flow_limit, cost_limit}
use Rattle.net_normal.specs.declared.problem.FlowArc.{FlowArc}
use Rattle.net_normal.specs.declared.problem.Problem as problems
use Rattle.net_dimacs.specs.Limits.{text_limit}
use Rattle.net_dimacs.specs.Lines.{fields_of, word_of}
use Rattle.net_dimacs.specs.Words.{Word}
use Rattle.net_dimacs.specs.Words.{Comment, Problem, Node, Arc, Min, Number}
use Rattle.net_dimacs.specs.declared.problem_line.LineStatement.{LineStatement}
use Rattle.net_dimacs.specs.declared.problem_line.LineStatement.TheVariants as statements
use Rattle.net_dimacs.specs.declared.problem_fault.LineFault.{LineFault}
use Rattle.net_dimacs.specs.declared.problem_fault.LineFault.TheVariants.{BadLine, NoProblemLine, LineOrder, NodeNumber, DoubleNode, Count, Bounds, TooLarge}
use Rattle.net_dimacs.specs.declared.problem_fault.Rejection.{Rejection}
use Rattle.net_dimacs.specs.declared.problem_fault.ProblemFault.{ProblemFault}
use Rattle.net_dimacs.specs.declared.problem_fault.ProblemFault.TheVariants as faults

-- ---- the meaning of a line

-- the three kinds of lines; blank lines and comments have no meaning
abbrev pub statement_of : List Word → Option LineStatement
statement_of [] = None
statement_of (Comment ∷ words) = None
statement_of (Problem ∷ Min ∷ Number nodes ∷ Number arcs ∷ []) = Some (statements.Problem nodes arcs)
statement_of (Node ∷ Number node ∷ Number supply ∷ []) = Some (statements.Node node supply)
statement_of (Arc ∷ Number src ∷ Number dst ∷ Number low ∷ Number cap ∷ Number cost ∷ []) = Some (statements.Arc src dst low cap cost)
statement_of words = Some statements.Other

abbrev pub line_statement : List ℕ → Option LineStatement
line_statement line = statement_of (map word_of (fields_of line))

-- ---- the state after some lines

-- after the `p` line: the supplies (0 for a node without a line), which nodes had a line, the arcs,
-- and ARCS
pub record Sketch : Type 0 where
  pub supplies : List ℤ
  pub named : List Bool
  pub arcs : List FlowArc
  pub arc_count : ℕ

-- the absolute value of z exceeds the limit
abbrev pub is_past : ℤ → ℤ → Bool
is_past limit z = int_lt limit z || int_lt z (neg_ℤ limit)

-- the index of a node, counted from 0, or None if there is no such node
abbrev pub place_of : Sketch → ℤ → Option ℕ
place_of d node = if int_le (pos 1) node && int_le node (pos (length d.supplies)) then Some (unsigned_abs node - 1) else None

abbrev pub new_sketch : ℤ → ℤ → Result Sketch LineFault
new_sketch nodes arcs =
    if int_lt nodes (pos 1) || int_lt arcs (pos 0) then Err Count
    else if int_lt (pos flow_node_limit) nodes || int_lt (pos flow_arc_limit) arcs then Err TooLarge
    else Ok (record {
      supplies = replicate (unsigned_abs nodes) (pos 0);
      named = replicate (unsigned_abs nodes) false;
      arcs = [];
      arc_count = unsigned_abs arcs;
    })

abbrev pub with_node_at : Sketch → Option ℕ → ℤ → Result Sketch LineFault
with_node_at d None supply = Err NodeNumber
with_node_at d (Some node) supply =
    if slice_index_or d.named node false then Err DoubleNode
    else if is_past (pos flow_limit) supply then Err TooLarge
    else Ok (record d { supplies = slice_set d.supplies node supply; named = slice_set d.named node true })

abbrev pub with_node : Sketch → ℤ → ℤ → Result Sketch LineFault
with_node d node supply = if length d.arcs == 0 then with_node_at d (place_of d node) supply else Err LineOrder

abbrev pub bounds_fault : ℤ → ℤ → ℤ → Option LineFault
bounds_fault low cap cost =
    if int_lt (pos flow_limit) low || int_lt (pos flow_limit) cap || is_past (pos cost_limit) cost then Some TooLarge
    else if int_lt low (pos 0) || int_lt cap low then Some Bounds
    else None

abbrev pub with_arc_or : Sketch → Option LineFault → FlowArc → Result Sketch LineFault
with_arc_or d (Some fault) arc = Err fault
with_arc_or d None arc = Ok (record d { arcs = d.arcs ++ arc ∷ [] })

abbrev pub with_arc_at : Sketch → Option ℕ → Option ℕ → ℤ → ℤ → ℤ → Result Sketch LineFault
with_arc_at d None dst low cap cost = Err NodeNumber
with_arc_at d (Some src) None low cap cost = Err NodeNumber
with_arc_at d (Some src) (Some dst) low cap cost = with_arc_or d (bounds_fault low cap cost) (record { src = src; dst = dst; low = low; cap = cap; cost = cost })

abbrev pub with_arc : Sketch → ℤ → ℤ → ℤ → ℤ → ℤ → Result Sketch LineFault
with_arc d src dst low cap cost =
    if nat_le d.arc_count (length d.arcs) then Err Count else with_arc_at d (place_of d src) (place_of d dst) low cap cost

-- nothing yet, a partial problem, or the first error
pub data State : Type 0 where
  Start : State
  Open : Sketch → State
  Rejected : Rejection → State

abbrev pub rejected : ℕ → LineFault → State
rejected line fault = Rejected (record { fault = fault; line = line })

abbrev pub state_from : ℕ → Result Sketch LineFault → State
state_from line (Ok d) = Open d
state_from line (Err fault) = rejected line fault

-- the state after the first line with a meaning
abbrev pub new_state : ℕ → LineStatement → State
new_state line (statements.Problem nodes arcs) = state_from line (new_sketch nodes arcs)
new_state line (statements.Node node supply) = rejected line NoProblemLine
new_state line (statements.Arc src dst low cap cost) = rejected line NoProblemLine
new_state line statements.Other = rejected line BadLine

-- a line after the `p` line
abbrev pub next_sketch : Sketch → LineStatement → Result Sketch LineFault
next_sketch d (statements.Problem nodes arcs) = Err LineOrder
next_sketch d (statements.Node node supply) = with_node d node supply
next_sketch d (statements.Arc src dst low cap cost) = with_arc d src dst low cap cost
next_sketch d statements.Other = Err BadLine

abbrev pub with_statement : ℕ → State → LineStatement → State
with_statement line Start statement = new_state line statement
with_statement line (Open d) statement = state_from line (next_sketch d statement)
with_statement line (Rejected r) statement = Rejected r

abbrev pub with_optional_statement : ℕ → State → Option LineStatement → State
with_optional_statement line state None = state
with_optional_statement line state (Some statement) = with_statement line state statement

-- ---- a whole file

abbrev pub Numbers : Type 0
Numbers = List ℤ × List FlowArc

-- at the end of the file; `line` is the number of the line after the last
abbrev pub finished : ℕ → State → Result Numbers Rejection
finished line Start = Err (record { fault = NoProblemLine; line = line })
finished line (Open d) = if nat_lt (length d.arcs) d.arc_count then Err (record { fault = Count; line = line }) else Ok (d.supplies, d.arcs)
finished line (Rejected r) = Err r

-- reads the lines, of which the first has this number
abbrev pub read_lines : ℕ → State → List (List ℕ) → Result Numbers Rejection
read_lines number state [] = finished number state
read_lines number state (line ∷ more) = read_lines (number + 1) (with_optional_statement number state (line_statement line)) more

-- the problem of a file, or its first error
abbrev pub read_text : List ℕ → Result Numbers Rejection
read_text text = if nat_lt text_limit (length text) then Err (record { fault = TooLarge; line = 1 }) else read_lines 1 Start (lines text)

-- ---- the result of a reader

abbrev pub Fails : Result Numbers Rejection → ProblemFault → Type 0
Fails read faults.OutOfMemory = Unit {0}
Fails read (faults.Rejected rejection) = read ≡ Err rejection

-- the result is the problem or the error that the definition gives, unless memory ran out
abbrev pub Gives : Result Numbers Rejection → Result problems.Problem ProblemFault → Type 0
Gives read (Ok problem) = read ≡ Ok (problem.supplies.items, problem.arcs.items)
Gives read (Err e) = Fails read e

-- P holds for the error, unless memory ran out
abbrev pub OnRejected : ProblemFault → (Rejection → Type 0) → Type 0
OnRejected faults.OutOfMemory P = Unit {0}
OnRejected (faults.Rejected rejection) P = P rejection

abbrev pub IfRejected : Result problems.Problem ProblemFault → (Rejection → Type 0) → Type 0
IfRejected (Ok problem) P = Unit {0}
IfRejected (Err fault) P = OnRejected fault P
