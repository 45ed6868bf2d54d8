-- What a run reads and writes (terms of Rust's std::io, Read and Write).
use Rattle.std.specs.Prelude.{◌≡◌, ◌≤◌, ◌↔◌, ◌⊎◌, ℕ, ◌+◌, Bool, true, List, [], ◌∷◌, Option, Result, ⊤, IfOk, IfErr, IsErrOf}
use Rattle.std.specs.Io.KnownBytes.{Appends, Consumes, IsAtEnd}
use Rattle.net_base.specs.declared.diagnostic.Language.TheVariants as languages
use Rattle.net_lex.specs.Limits.{text_limit}
use Rattle.net_expr.specs.Worlds.{Name}
use Rattle.net_dimacs.specs.Limits as dimacs
use Rattle.net_io.specs.Ends.{ReadsToLimit, WritesFront}
use Rattle.net_driver.specs.declared.answer.Answer.{Answer}
use Rattle.net_driver.specs.declared.compiled.Compiled.{Compiled}
use Rattle.net_driver.specs.declared.driver_fault.Fault.{Fault}
use Rattle.net_driver.specs.declared.driver_fault.TextName.{TextName}
use Rattle.net_driver.specs.declared.driver_fault.TextName.TheVariants.{Model, Data, Problem, Certificate}
use Rattle.net_driver.specs.declared.driver_fault.Fault.TheVariants.{OutOfMemory, Rejected, RejectedLine, Unread, Unwritten}
use Rattle.net_driver.specs.Reporting.{IsRejection}
use Rattle.net_check.specs.declared.checker.Verdict.{Verdict}
use Rattle.net_check.specs.declared.certificate.Certificate as certificates
use Rattle.net_driver.specs.declared.solve_run.ExitKind.{ExitKind}
use Rattle.net_driver.specs.Checked.{Judges, IsLineRejection, IsProblemRejection, exit_kind_of, verdict_line}
use Rattle.net_driver.specs.Settled.{Settles, settled_exit_kind}
use Rattle.net_driver.specs.IsSolved.{IsSolved, text_of}
use Rattle.net_driver.specs.IsSolved as answers
use Rattle.net_driver.specs.IsBuilt.{IsBuilt}
use Rattle.net_driver.specs.PricedPlans.{IsSolvedWithPrices}
use Rattle.net_driver.specs.PlanProofs.{IsPricedSolution}
use Rattle.net_driver.specs.Meaning.{IsCompilation, IsSolution}

abbrev pub model_limit : ℕ
model_limit = text_limit languages.Model

abbrev pub data_limit : ℕ
data_limit = text_limit languages.Data

-- the maximum size of a problem file and of a certificate file
abbrev pub lines_limit : ℕ
lines_limit = dimacs.text_limit

-- the bytes of a source before and after a run
pub record Stream : Type 0 where
  pub old : Option (List ℕ)
  pub new : Option (List ℕ)

-- a source was read to its end, and returned this text
pub record ReadsWhole (source : Stream) (text : List ℕ) : Type 0 where
  pub bytes : Consumes source.old source.new text
  pub at_end : IsAtEnd source.new

-- a source was read to its end, or to one byte past the limit
abbrev pub ReadsUpTo : ℕ → Stream → List ℕ → Type 0
ReadsUpTo limit source text = ReadsToLimit limit source.old source.new text

-- the number of reads from a source is at most the size limit plus one, however few bytes each read
-- returns
abbrev pub IsAskedFew : (limit before after : ℕ) → Type 0
IsAskedFew limit before after = after ≤ before + (limit + 1)

-- a source before and after a run
pub record Source (S : Type 0) : Type 0 where
  pub remaining : S → Option (List ℕ)
  pub failed : S → Bool
  pub reads : S → ℕ
  pub old : S
  pub new : S

-- a sink before and after a run
pub record Sink (S : Type 0) : Type 0 where
  pub taken : S → Option (List ℕ)
  pub failed : S → Bool
  pub old : S
  pub new : S

-- what a run does with a source: its name, its size limit, its bytes, whether a read has failed,
-- and the number of reads
pub record Input : Type 0 where
  pub name : TextName
  pub limit : ℕ
  pub bytes : Stream
  pub failed : Bool
  pub reads_before : ℕ
  pub reads_after : ℕ

abbrev pub input : {S : Type 0} → TextName → ℕ → Source S → Input
input name limit s = record {
  name = name;
  limit = limit;
  bytes = record { old = s.remaining s.old; new = s.remaining s.new };
  failed = s.failed s.new;
  reads_before = s.reads s.old;
  reads_after = s.reads s.new;
}

-- P holds for each source of a run
abbrev pub Each : (Input → Type 0) → List Input → Type 0
Each P [] = ⊤
Each P (i ∷ inputs) = P i × Each P inputs

-- P holds for one source of a run
abbrev pub OneOf : (Input → Type 0) → List Input → Type 0
OneOf P [] = ⊥
OneOf P (i ∷ inputs) = P i ⊎ OneOf P inputs

-- the text of each input
abbrev pub Texts : Type 0
Texts = TextName → List ℕ

-- the sources were read to their ends, and `GoesOut` holds for the output that is the result for
-- their texts
pub record Writes (inputs : List Input) (IsAnswer : Texts → List ℕ → Type 0) (GoesOut : List ℕ → Type 0) : Type 0 where
  pub texts : Texts
  pub read : Each (λ i. ReadsWhole i.bytes (texts i.name)) inputs
  pub text : List ℕ
  pub answer : IsAnswer texts text
  pub written : GoesOut text

-- the sources were read up to their limits, and their texts have this error
pub record Rejects (inputs : List Input) (IsWrong : Texts → Type 0) : Type 0 where
  pub texts : Texts
  pub read : Each (λ i. ReadsUpTo i.limit i.bytes (texts i.name)) inputs
  pub rejected : IsWrong texts

-- what an error means: nothing was written, unless a write failed; then a prefix of the result was
-- written
abbrev pub Reports : {A S : Type 0} → List Input → Sink S → (Texts → A → List ℕ → Type 0) → (Texts → Fault → Type 0) → Fault → Type 0
Reports inputs output IsAnswer IsWrong OutOfMemory = output.new ≡ output.old
Reports inputs output IsAnswer IsWrong (Rejected r) = (output.new ≡ output.old) × Rejects inputs (λ texts. IsWrong texts (Rejected r))
Reports inputs output IsAnswer IsWrong (RejectedLine r) = (output.new ≡ output.old) × Rejects inputs (λ texts. IsWrong texts (RejectedLine r))
Reports inputs output IsAnswer IsWrong (Unread name) = (output.new ≡ output.old) × OneOf (λ i. name ≡ i.name) inputs
Reports {A} inputs output IsAnswer IsWrong Unwritten =
    (a : A) × Writes inputs (λ texts. IsAnswer texts a) (WritesFront (output.taken output.old) (output.taken output.new))

-- a run from these sources to this sink: which results with which output are possible for the
-- inputs, and which errors
pub record IsRun {A S : Type 0} (inputs : List Input) (output : Sink S) (IsAnswer : Texts → A → List ℕ → Type 0) (IsWrong : Texts → Fault → Type 0)
    (result : Result A Fault) : Type 0 where
  -- the sources were read completely, and exactly the output of the result was written
  pub ok : IfOk result (λ a. Writes inputs (λ texts. IsAnswer texts a) (Appends (output.taken output.old) (output.taken output.new)))
  pub err : IfErr result (Reports inputs output IsAnswer IsWrong)
  -- a stream is reported if and only if it failed
  pub unread : Each (λ i. IsErrOf result (Unread i.name) ↔ (i.failed ≡ true)) inputs
  pub unwritten : IsErrOf result Unwritten ↔ (output.failed output.new ≡ true)
  -- however few bytes a source returns at once, the number of reads is at most the size limit plus
  -- one for the end
  pub reads : Each (λ i. IsAskedFew i.limit i.reads_before i.reads_after) inputs

-- the text of a compiled model with its data; it is the model of these inputs by the main theorem and by the meaning of the inputs
abbrev pub IsCompiledText : Bool → Option Name → Texts → Unit {0} → List ℕ → Type 0
IsCompiledText lean wanted texts done text =
    (c : Compiled) × IsBuilt lean wanted (texts Model) (texts Data) c × IsCompilation wanted (texts Model) (texts Data) c × (text ≡ c.text.items)

-- the plan of a model with its data, or the cut that proves that there is none
abbrev pub IsSolvedText : Bool → Option Name → Texts → ExitKind → List ℕ → Type 0
IsSolvedText lean wanted texts exit_kind text =
    (a : Answer) × IsSolved lean wanted (texts Model) (texts Data) a × IsSolution wanted (texts Model) (texts Data) a
    × (exit_kind ≡ answers.exit_kind_of a.outcome) × (text ≡ text_of a.outcome)

-- the same with prices after a plan: they prove it
abbrev pub IsPricedText : Bool → Option Name → Texts → ExitKind → List ℕ → Type 0
IsPricedText lean wanted texts exit_kind text =
    (a : Answer) × IsSolvedWithPrices lean wanted (texts Model) (texts Data) a text × IsPricedSolution wanted (texts Model) (texts Data) a text
    × (exit_kind ≡ answers.exit_kind_of a.outcome)

-- the line of the verdict on a certificate
abbrev pub IsVerdictText : Texts → ExitKind → List ℕ → Type 0
IsVerdictText texts exit_kind text = (v : Verdict) × Judges (texts Problem) (texts Certificate) v × (exit_kind ≡ exit_kind_of v) × (text ≡ verdict_line v)

-- the text of a problem's certificate
abbrev pub IsSettledText : Texts → ExitKind → List ℕ → Type 0
IsSettledText texts exit_kind text = (c : certificates.Certificate) × Settles (texts Problem) c text × (exit_kind ≡ settled_exit_kind c)

-- a run that reads a model and its data
abbrev pub IsModelRun : {A M D W : Type 0} → Option Name → (Texts → A → List ℕ → Type 0) → Source M → Source D → Sink W → Result A Fault → Type 0
IsModelRun wanted IsText model data' output result =
    IsRun (input Model model_limit model ∷ input Data data_limit data' ∷ []) output IsText (λ texts. IsRejection wanted (texts Model) (texts Data)) result

-- the five runs
abbrev pub IsCompileRun : {M D W : Type 0} → Bool → Option Name → Source M → Source D → Sink W → Result (Unit {0}) Fault → Type 0
IsCompileRun lean wanted model data' output result = IsModelRun wanted (IsCompiledText lean wanted) model data' output result

abbrev pub IsSolveRun : {M D W : Type 0} → Bool → Option Name → Source M → Source D → Sink W → Result ExitKind Fault → Type 0
IsSolveRun lean wanted model data' output result = IsModelRun wanted (IsSolvedText lean wanted) model data' output result

abbrev pub IsPricedRun : {M D W : Type 0} → Bool → Option Name → Source M → Source D → Sink W → Result ExitKind Fault → Type 0
IsPricedRun lean wanted model data' output result = IsModelRun wanted (IsPricedText lean wanted) model data' output result

abbrev pub IsCheckRun : {P C W : Type 0} → Source P → Source C → Sink W → Result ExitKind Fault → Type 0
IsCheckRun problem certificate output result =
    IsRun (input Problem lines_limit problem ∷ input Certificate lines_limit certificate ∷ []) output IsVerdictText
    (λ texts. IsLineRejection (texts Problem) (texts Certificate)) result

abbrev pub IsMinRun : {P W : Type 0} → Source P → Sink W → Result ExitKind Fault → Type 0
IsMinRun problem output result = IsRun (input Problem lines_limit problem ∷ []) output IsSettledText (λ texts. IsProblemRejection (texts Problem)) result
