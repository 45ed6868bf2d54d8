-- From what a run read and wrote to what it promises.
use Rattle.std.proofs.Common.{◌≡◌, ℕ, true, List, [], ◌∷◌, Result, Ok, Err, sym, ◌∙◌, subst}
use Rattle.std.specs.Prelude.{◌↔◌, IsErrOf}
use Rattle.std.specs.Result.{IsErrAnd}
use Rattle.net_driver.specs.declared.driver_fault.Fault.{Fault}
use Rattle.net_driver.specs.declared.driver_fault.Fault.TheVariants.{OutOfMemory, Rejected, RejectedLine, Unread, Unwritten}
use Rattle.net_driver.specs.declared.driver_fault.TextName.{TextName}
use Rattle.net_driver.specs.declared.driver_fault.TextName.TheVariants.{Model, Data, Problem, Certificate}
use Rattle.net_driver.specs.Runs.{ReadsUpTo, Input, Sink, Each, Texts, Reports, IsAskedFew, IsRun}

-- these are the texts of the names
abbrev pub texts_of : (model data' problem certificate : List ℕ) → Texts
texts_of model data' problem certificate Model = model
texts_of model data' problem certificate Data = data'
texts_of model data' problem certificate Problem = problem
texts_of model data' problem certificate Certificate = certificate

-- what is wrong with texts is told of them
wrong_reported : {A S : Type 0} (inputs : List Input) (output : Sink S) (IsAnswer : Texts → A → List ℕ → Type 0) (IsWrong : Texts → Fault → Type 0)
    (texts : Texts) → ((name : TextName) → IsWrong texts (Unread name) → ⊥) → (IsWrong texts Unwritten → ⊥)
    → Each (λ i. ReadsUpTo i.limit i.bytes (texts i.name)) inputs → output.new ≡ output.old → (fault : Fault) → IsWrong texts fault
    → Reports inputs output IsAnswer IsWrong fault
wrong_reported inputs output IsAnswer IsWrong texts unread unwritten read same OutOfMemory wrong = same
wrong_reported inputs output IsAnswer IsWrong texts unread unwritten read same (Rejected r) wrong = (same, record { texts = texts; read = read; rejected = wrong })
wrong_reported inputs output IsAnswer IsWrong texts unread unwritten read same (RejectedLine r) wrong = (same, record { texts = texts; read = read; rejected = wrong })
wrong_reported inputs output IsAnswer IsWrong texts unread unwritten read same (Unread name) wrong = absurd (unread name wrong)
wrong_reported inputs output IsAnswer IsWrong texts unread unwritten read same Unwritten wrong = absurd (unwritten wrong)

-- of this fault no source is blamed
not_blamed : (A : Type 0) (fault : Fault) (inputs : List Input) → ((name : TextName) → fault ≡ Unread name → ⊥) → Each (λ i. i.failed ≡ true → ⊥) inputs
    → Each (λ i. IsErrOf {T = A} {E = Fault} (Err fault) (Unread i.name) ↔ (i.failed ≡ true)) inputs
not_blamed A fault [] other quiet = tt
not_blamed A fault (i ∷ inputs) other quiet = (
  ((λ (h : ◌≡◌ {A = Result A Fault} (Err fault) (Err (Unread i.name))). absurd (other i.name cc)), (λ h. absurd (quiet.0 h))),
  not_blamed A fault inputs other quiet.1,
)

-- a run that refuses its texts
pub rejected_run : {A S : Type 0} (inputs : List Input) (output : Sink S) (IsAnswer : Texts → A → List ℕ → Type 0)
    (IsWrong : Texts → Fault → Type 0) (texts : Texts) → ((name : TextName) → IsWrong texts (Unread name) → ⊥) → (IsWrong texts Unwritten → ⊥)
    → Each (λ i. ReadsUpTo i.limit i.bytes (texts i.name)) inputs → output.new ≡ output.old
    → Each (λ i. i.failed ≡ true → ⊥) inputs → (output.failed output.new ≡ true → ⊥)
    → Each (λ i. IsAskedFew i.limit i.reads_before i.reads_after) inputs
    → (fault : Fault) → IsWrong texts fault → (r : Result A Fault) (P : Fault → Type 0) → ((e : Fault) → P e → e ≡ fault) → IsErrAnd r P
    → IsRun inputs output IsAnswer IsWrong r
rejected_run inputs output IsAnswer IsWrong texts unread unwritten read same quiet written few fault wrong (Ok v) P is h = absurd h
rejected_run {A} inputs output IsAnswer IsWrong texts unread unwritten read same quiet written few fault wrong (Err e) P is h =
    let here : IsWrong texts e = subst (IsWrong texts) (sym (is e h)) wrong in
    record {
      ok = tt;
      err = wrong_reported inputs output IsAnswer IsWrong texts unread unwritten read same e here;
      unread = not_blamed A e inputs (λ name k. unread name (subst (IsWrong texts) k here)) quiet;
      unwritten = (
        (λ (k : ◌≡◌ {A = Result A Fault} (Err e) (Err Unwritten)). let last : e ≡ Unwritten = cc in absurd (unwritten (subst (IsWrong texts) last here))),
        (λ k. absurd (written k)),
      );
      reads = few;
    }

-- a run that had no memory for its answer
pub stopped_run : {A S : Type 0} (inputs : List Input) (output : Sink S) (IsAnswer : Texts → A → List ℕ → Type 0)
    (IsWrong : Texts → Fault → Type 0) → output.new ≡ output.old
    → Each (λ i. i.failed ≡ true → ⊥) inputs → (output.failed output.new ≡ true → ⊥)
    → Each (λ i. IsAskedFew i.limit i.reads_before i.reads_after) inputs
    → (r : Result A Fault) (P : Fault → Type 0) → ((e : Fault) → P e → e ≡ OutOfMemory) → IsErrAnd r P → IsRun inputs output IsAnswer IsWrong r
stopped_run inputs output IsAnswer IsWrong same quiet written few (Ok v) P is h = absurd h
stopped_run {A} inputs output IsAnswer IsWrong same quiet written few (Err e) P is h =
    let none : e ≡ OutOfMemory = is e h in
    record {
      ok = tt;
      err = subst (Reports inputs output IsAnswer IsWrong) (sym none) same;
      unread = not_blamed A e inputs (λ name k. let both : OutOfMemory ≡ Unread name = sym none ∙ k in cc) quiet;
      unwritten = (
        (λ (k : ◌≡◌ {A = Result A Fault} (Err e) (Err Unwritten)).
            let last : e ≡ Unwritten = cc in
            let both : OutOfMemory ≡ Unwritten = sym none ∙ last in
            cc),
        (λ k. absurd (written k)),
      );
      reads = few;
    }
