-- What a call returns to its host: an exit status, and a text in the host's memory.
use Rattle.std.specs.Prelude.{◌≡◌, ◌≤◌, ◌<◌, ◌++◌, ◌⊎◌, ℕ, Bool, List, [], ◌∷◌, length, drop, Option, None, Some, IsUtf8}
use Rattle.net_expr.specs.Worlds.{Name}
use Rattle.net_check.specs.declared.certificate.Certificate.{Certificate}
use Rattle.net_check.specs.declared.checker.Verdict.{Verdict}
use Rattle.net_driver.specs.declared.answer.Outcome.{Outcome}
use Rattle.net_driver.specs.declared.compiled.Compiled.{Compiled}
use Rattle.net_driver.specs.declared.driver_fault.Fault.{Fault}
use Rattle.net_driver.specs.declared.driver_fault.Fault.TheVariants.{OutOfMemory, Rejected, RejectedLine, Unread, Unwritten}
use Rattle.net_driver.specs.declared.solve_run.ExitKind.{ExitKind}
use Rattle.net_driver.specs.declared.solve_run.ExitKind.TheVariants.{Done, Refuted}
use Rattle.net_driver.specs.Checked.{Judges, exit_kind_of, verdict_line}
use Rattle.net_driver.specs.FaultLines.{fault_line}
use Rattle.net_driver.specs.IsBuilt.{IsBuilt}
use Rattle.net_driver.specs.IsSolved.{text_of}
use Rattle.net_driver.specs.IsSolved as answers
use Rattle.net_driver.specs.Meaning.{IsCompilation}
use Rattle.net_driver.specs.Settled.{Settles, settled_exit_kind}
use Rattle.net_driver.specs.SolvedOutcomes.{IsOutcomeFor}

-- the host gets the length of the text; if the text fits, it replaces the start of the memory, and if not, the memory is unchanged
pub record IsHandedOver (text before after : List ℕ) (n : ℕ) : Type 0 where
  pub counted : n ≡ length text
  pub copied : n ≤ length before → after ≡ text ++ drop n before
  pub unchanged : length before < n → after ≡ before

-- the exit statuses of the program
abbrev pub status_of : ExitKind → ℕ
status_of Done = 0
status_of Refuted = 2

abbrev pub status_of_fault : Fault → ℕ
status_of_fault OutOfMemory = 5
status_of_fault (Rejected r) = 3
status_of_fault (RejectedLine r) = 3
status_of_fault (Unread text) = 4
status_of_fault Unwritten = 4

-- the reply is an answer, or the line of an error of the input, or says that memory ran out
abbrev pub IsReply : (ExitKind → List ℕ → Type 0) → (Fault → Type 0) → ℕ → List ℕ → Type 0
IsReply IsAnswer IsWrong status text =
    (status ≡ 5)
    ⊎ (((kind : ExitKind) × (status ≡ status_of kind) × IsAnswer kind text)
    ⊎ ((fault : Fault) × (status ≡ status_of_fault fault) × IsWrong fault × (text ≡ fault_line fault)))

-- the objective that a name requests; an empty name requests the model's only one
abbrev pub requested_by : List ℕ → Option Name
requested_by [] = None
requested_by (byte ∷ rest) = Some (byte ∷ rest)

-- the same for a call with the name of an objective, which is rejected with status 64 if it is not UTF-8
abbrev pub IsReplyFor : List ℕ → (ExitKind → List ℕ → Type 0) → (Fault → Type 0) → ℕ → List ℕ → Type 0
IsReplyFor name IsAnswer IsWrong status text = ((status ≡ 64) × ¬ (IsUtf8 name)) ⊎ IsReply IsAnswer IsWrong status text

-- the plan of a model with its data, or the cut that proves that there is none
abbrev pub IsSolveText : Bool → Option Name → (model_text data_text : List ℕ) → ExitKind → List ℕ → Type 0
IsSolveText lean requested m d kind text =
    (outcome : Outcome) × IsOutcomeFor lean requested m d outcome × (kind ≡ answers.exit_kind_of outcome) × (text ≡ text_of outcome)

-- the text of a compiled model with its data
abbrev pub IsCompileText : Bool → Option Name → (model_text data_text : List ℕ) → ExitKind → List ℕ → Type 0
IsCompileText lean requested m d kind text =
    (c : Compiled) × IsBuilt lean requested m d c × IsCompilation requested m d c × (kind ≡ Done) × (text ≡ c.text.items)

-- the text of a problem's certificate
abbrev pub IsMinText : List ℕ → ExitKind → List ℕ → Type 0
IsMinText problem kind text = (c : Certificate) × Settles problem c text × (kind ≡ settled_exit_kind c)

-- the line of the verdict on a certificate
abbrev pub IsCheckText : (problem certificate : List ℕ) → ExitKind → List ℕ → Type 0
IsCheckText problem certificate kind text = (v : Verdict) × Judges problem certificate v × (kind ≡ exit_kind_of v) × (text ≡ verdict_line v)
