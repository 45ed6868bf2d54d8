-- What a call does: which files it opens, which run it makes on them, and what the program returns.
use Rattle.std.specs.Prelude.{◌≡◌, ◌⊎◌, ℕ, Bool, true, List, [], ◌∷◌, ◌++◌, codes, Option, Some, None, Result, Ok, Err, ⊤}
use Rattle.std.specs.Io.KnownBytes.{Appends}
use Rattle.std.specs.Option.{option_copied}
use Rattle.clap.specs.Words.{Text}
use Rattle.net_driver.specs.declared.solve_run.ExitKind.{ExitKind}
use Rattle.net_driver.specs.declared.solve_run.ExitKind.TheVariants.{Done}
use Rattle.net_driver.specs.declared.driver_fault.Fault.{Fault}
use Rattle.net_driver.specs.declared.driver_fault.Fault.TheVariants.{OutOfMemory, Unread}
use Rattle.net_driver.specs.declared.driver_fault.TextName.{TextName}
use Rattle.net_driver.specs.declared.driver_fault.TextName.TheVariants.{Model, Data, Problem, Certificate}
use Rattle.net_driver.specs.FaultLines.{fault_line}
use Rattle.net_io.specs.Ends.{WritesFront}
use Rattle.net_driver.specs.Runs.{IsCompileRun, IsSolveRun, IsPricedRun, IsMinRun, IsCheckRun, Sink, Source}
use Rattle.netflow.specs.declared.call.Call.{Call}
use Rattle.netflow.specs.declared.call.Call.TheVariants.{Compile, Solve, SolveWithPrices, Min, Check}
use Rattle.netflow.specs.declared.command_words.CommandWords.{CommandWords}
use Rattle.netflow.specs.declared.status.Status.{Status}
use Rattle.netflow.specs.declared.status.Status.TheVariants as statuses
use Rattle.netflow.specs.CommandLine.{AsksForHelp, IsAskedBy, IsCallOf, IsValid}
use Rattle.netflow.specs.Statuses.{status_of_exit_kind, status_of_fault}

-- the files that can be opened: what opening a path can give, and the state of an opened file
pub record Files (S : Type 0) : Type 1 where
  pub opens : List ℕ → Option S → Type 0
  pub remaining : S → Option (List ℕ)
  pub failed : S → Bool
  pub reads : S → ℕ

-- an opened file before and after a run
abbrev pub source : {S : Type 0} → Files S → (old new : S) → Source S
source files old new = record { remaining = files.remaining; failed = files.failed; reads = files.reads; old = old; new = new }

-- the file at this path was opened, and `Then` holds for it; or it could not be opened, the result
-- reports it, and nothing was written
abbrev pub Opens : {S W : Type 0} → Files S → Sink W → Result ExitKind Fault → (path : List ℕ) → TextName → (Then : S → Type 0) → Type 0
Opens {S} files output result path name Then =
    ((file : S) × files.opens path (Some file) × Then file)
    ⊎ (files.opens path None × (result ≡ Err (Unread name)) × (output.new ≡ output.old))

-- a run on the file at this path
abbrev pub OnFile : {S W : Type 0} → Files S → Sink W → Result ExitKind Fault → (path : List ℕ) → TextName → (Source S → Type 0) → Type 0
OnFile {S} files output result path name IsRunOn =
    Opens files output result path name (λ old. (new : S) × IsRunOn (source files old new))

-- a run on the files at these two paths: the second is opened only if the first was, and read only
-- if no read of the first failed
abbrev pub OnFiles : {S W : Type 0} → Files S → Sink W → Result ExitKind Fault → (path : List ℕ) → TextName → (path₂ : List ℕ) → TextName
    → (Source S → Source S → Type 0) → Type 0
OnFiles {S} files output result path name path₂ name₂ IsRunOn =
    Opens files output result path name (λ old. Opens files output result path₂ name₂ (λ old₂.
    (new new₂ : S) × IsRunOn (source files old new) (source files old₂ new₂) × (files.failed new ≡ true → new₂ ≡ old₂)))

-- the result of the program for a problem that was compiled
abbrev pub compiled_exit_kind : Result (Unit {0}) Fault → Result ExitKind Fault
compiled_exit_kind (Ok done) = Ok Done
compiled_exit_kind (Err fault) = Err fault

-- the run of a call on its files, with its options
abbrev pub IsCallRun : {S W : Type 0} → Files S → Sink W → Call → Result ExitKind Fault → Type 0
IsCallRun files output (Compile model other options) result =
    OnFiles files output result model.now Model other.now Data (λ m d.
    (ran : Result (Unit {0}) Fault) × IsCompileRun options.lean (option_copied options.objective) m d output ran × (result ≡ compiled_exit_kind ran))
IsCallRun files output (Solve model other options) result =
    OnFiles files output result model.now Model other.now Data (λ m d. IsSolveRun options.lean (option_copied options.objective) m d output result)
IsCallRun files output (SolveWithPrices model other options) result =
    OnFiles files output result model.now Model other.now Data (λ m d. IsPricedRun options.lean (option_copied options.objective) m d output result)
IsCallRun files output (Min problem) result =
    OnFile files output result problem.now Problem (λ p. IsMinRun p output result)
IsCallRun files output (Check problem certificate) result =
    OnFiles files output result problem.now Problem certificate.now Certificate (λ p c. IsCheckRun p c output result)

-- the status of a call's result
abbrev pub status_of : Result ExitKind Fault → Status
status_of (Ok exit_kind) = status_of_exit_kind exit_kind
status_of (Err fault) = status_of_fault fault

-- ---- the line of an error

-- what is printed in place of a line with more than 4096 bytes
abbrev pub too_long : List ℕ
too_long = codes "the line of this error is too long\n"

-- the text was written, or a write failed and only the front of it was written
abbrev pub Writes : {W : Type 0} → Sink W → List ℕ → Type 0
Writes stream text =
    Appends (stream.taken stream.old) (stream.taken stream.new) text ⊎ ((stream.failed stream.new ≡ true) × WritesFront (stream.taken stream.old) (stream.taken stream.new) text)

-- of an error its line was written to standard error, and otherwise nothing
abbrev pub IsErrorPrinted : {W : Type 0} → Sink W → Result ExitKind Fault → Type 0
IsErrorPrinted errors (Ok exit_kind) = errors.new ≡ errors.old
IsErrorPrinted errors (Err fault) = Writes errors (fault_line fault ++ 10 ∷ []) ⊎ Writes errors too_long

-- ---- the program

-- the call that the arguments request was run, its error was printed, and the status is that of its result
pub record RunsCall {S W E : Type 0} (files : Files S) (output : Sink W) (errors : Sink E) (words : List Text) (status : Status) : Type 0 where
  pub asked : CommandWords
  pub call : Call
  pub result : Result ExitKind Fault
  pub requested : IsAskedBy words asked
  pub chosen : IsCallOf asked call
  pub run : IsCallRun files output call result
  pub printed : IsErrorPrinted errors result
  pub answered : status ≡ status_of result

-- why no call was run: the arguments are invalid; help or the version is requested, and printed or
-- not; or memory ran out
abbrev pub IsIdle : List Text → Status → Type 0
IsIdle words statuses.Usage = ¬ IsValid words
IsIdle words statuses.Done = AsksForHelp words
IsIdle words statuses.EndFailed = AsksForHelp words
IsIdle words statuses.OutOfMemory = ⊤
IsIdle words statuses.Refuted = ⊥
IsIdle words statuses.Rejected = ⊥

-- if no call was run, only `out of memory` was printed; what clap prints of the arguments is not in this stream
abbrev pub IsIdlePrinted : {E : Type 0} → Sink E → Status → Type 0
IsIdlePrinted errors statuses.OutOfMemory = IsErrorPrinted errors (Err OutOfMemory)
IsIdlePrinted errors _ = errors.new ≡ errors.old

-- no call was run, and nothing was written
pub record RunsNothing {W E : Type 0} (output : Sink W) (errors : Sink E) (words : List Text) (status : Status) : Type 0 where
  pub idle : IsIdle words status
  pub unwritten : output.new ≡ output.old
  pub printed : IsIdlePrinted errors status

-- a run of the program with these arguments
abbrev pub IsProgramRun : {S W E : Type 0} → Files S → Sink W → Sink E → List Text → Status → Type 0
IsProgramRun files output errors words status = RunsCall files output errors words status ⊎ RunsNothing output errors words status
