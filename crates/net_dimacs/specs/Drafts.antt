-- The state of the reader of a DIMACS file.
use Rattle.std.specs.Prelude.{◌≡◌, ◌∷◌, [], Result, Ok, Err, IsOk}
use Rattle.std.specs.declared.alloc.AllocError.{AllocError}
use Rattle.net_dimacs.specs.declared.problem_fault.LineFault.{LineFault}
use Rattle.net_dimacs.specs.declared.problem_line.LineStatement.{LineStatement}
use Rattle.net_dimacs.specs.declared.problem_draft.ProblemDraft.{ProblemDraft}
use Rattle.net_dimacs.specs.declared.progress.LineStop.{LineStop}
use Rattle.net_dimacs.specs.declared.progress.LineStop.TheVariants as line_stops
use Rattle.net_dimacs.specs.declared.progress.Progress.{Progress}
use Rattle.net_dimacs.specs.declared.progress.Progress.TheVariants as progresses
use Rattle.net_dimacs.specs.Reading.{Sketch, State, Start, Open, Rejected}
use Rattle.net_dimacs.specs.Problems.{BeginsProblem}

abbrev pub sketch_of : ProblemDraft → Sketch
sketch_of d = record { supplies = d.supplies.items; named = d.named.items; arcs = d.arcs.items; arc_count = d.arc_count }

-- memory can run out only at a line without an error
abbrev pub FailsLine : {A : Type 0} → Result A LineFault → LineStop → Type 0
FailsLine read line_stops.OutOfMemory = IsOk read
FailsLine read (line_stops.Line fault) = read ≡ Err fault

-- the result is the draft or the error that the definition gives, unless memory ran out
abbrev pub GivesDraft : Result Sketch LineFault → Result ProblemDraft LineStop → Type 0
GivesDraft read (Ok d) = read ≡ Ok (sketch_of d)
GivesDraft read (Err e) = FailsLine read e

-- if the line has no error, `next` is the new sketch
abbrev pub GivesSketch : Result Sketch LineFault → Result (Unit {0}) LineFault → Sketch → Type 0
GivesSketch read (Ok taken) next = read ≡ Ok next
GivesSketch read (Err fault) next = read ≡ Err fault

abbrev pub state_of : Progress → State
state_of progresses.Start = Start
state_of (progresses.Open d) = Open (sketch_of d)
state_of (progresses.Rejected rejection) = Rejected rejection

-- the state after the first statement; memory can run out only at an accepted `p` line
abbrev pub GivesState : State → LineStatement → Result Progress AllocError → Type 0
GivesState state statement (Ok progress) = state_of progress ≡ state
GivesState state statement (Err e) = BeginsProblem (statement ∷ [])
