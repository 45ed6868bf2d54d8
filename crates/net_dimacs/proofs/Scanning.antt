-- Reading a text line by line.
use Rattle.std.proofs.Common.{◌≡◌, ◌<◌, ℕ, suc, ◌+◌, ◌-◌, List, [], ◌∷◌, ◌++◌, Some, None, Ok, Err, refl, sym, ap, subst, ◌∙◌, length, arith, append_assoc}
use Rattle.std.specs.Prelude.{Option, Result, filter_map, IsOk, OnErr, option_to_list, slice_index}
use Rattle.std.specs.List.{cons_option}
use Rattle.std.specs.Option.{option_map}
use Rattle.std.specs.Str.Lines.{lines}
use Rattle.net_dimacs.specs.declared.problem_line.LineStatement.{LineStatement}
use Rattle.net_dimacs.specs.declared.problem_line.LineStatement.TheVariants as statements
use Rattle.net_dimacs.specs.declared.problem_fault.LineFault.{LineFault}
use Rattle.net_dimacs.specs.declared.line_scan.Scan.{Scan}
use Rattle.net_dimacs.specs.declared.progress.Progress.{Progress}
use Rattle.net_dimacs.specs.declared.progress.Progress.TheVariants as progresses
use Rattle.net_dimacs.specs.Numbers.{cut_statement}
use Rattle.net_dimacs.specs.Reading.{Sketch, new_sketch, next_sketch, State, Start, Open, Rejected, state_from, with_optional_statement, read_lines, line_statement}
use Rattle.net_dimacs.specs.Problems.{BeginsProblem, statements_of}
use Rattle.net_dimacs.specs.Drafts.{state_of}
use Rattle.net_dimacs.specs.Lines.{EndsLine}
use Rattle.net_dimacs.proofs.LineSteps.{lines_joined}
use Rattle.net_dimacs.proofs.Cutting.{IsSmall, said_cut, new_cut}

-- where nothing was said yet, all statements are still to come
abbrev pub IsUnbegun : Scan → List ℕ → Scan → List ℕ → Type 0
IsUnbegun first text now rest = state_of now.progress ≡ Start → (state_of first.progress ≡ Start) × (statements_of rest ≡ statements_of text)

pub small_state : (p : Progress) → IsSmall (state_of p)
small_state progresses.Start = tt
small_state (progresses.Open d) = omega (arith, d.few_nodes, d.supplies.ok.0)
small_state (progresses.Rejected r) = tt

-- what the code makes of a line is what the line says
pub said_so : (n : ℕ) (p : Progress) (line : List ℕ) (x : Option LineStatement) → x ≡ option_map cut_statement (line_statement line) → with_optional_statement n (state_of p) x ≡ with_optional_statement n (state_of p) (line_statement line)
said_so n p line x e = ap (with_optional_statement n (state_of p)) e ∙ said_cut n (state_of p) (line_statement line) (small_state p)

pub line_read : (n : ℕ) (state next : State) (line rest after : List ℕ) → lines rest ≡ line ∷ lines after → next ≡ with_optional_statement n state (line_statement line)
    → (more : List (List ℕ)) → read_lines (n + 1) next (lines after ++ more) ≡ read_lines n state (lines rest ++ more)
line_read n state next line rest after parts e more =
    ap (λ (s : State). read_lines (n + 1) s (lines after ++ more)) e ∙ ap (λ (ls : List (List ℕ)). read_lines n state (ls ++ more)) (sym parts)

statements_split : (line rest after : List ℕ) → lines rest ≡ line ∷ lines after → statements_of rest ≡ cons_option (line_statement line) (statements_of after)
statements_split line rest after parts = ap (filter_map line_statement) parts

kept_begun : (n : ℕ) (read : Result Sketch LineFault) → state_from n read ≡ Start → ⊥
kept_begun n (Ok d) e = cc
kept_begun n (Err fault) e = cc

unbegun : (n : ℕ) (state : State) (x : Option LineStatement) → with_optional_statement n state x ≡ Start → (state ≡ Start) × (x ≡ None)
unbegun n Start None e = (refl, refl)
unbegun n Start (Some (statements.Problem nodes arcs)) e = absurd (kept_begun n (new_sketch nodes arcs) e)
unbegun n Start (Some (statements.Node node supply)) e = absurd cc
unbegun n Start (Some (statements.Arc src dst low cap cost)) e = absurd cc
unbegun n Start (Some statements.Other) e = absurd cc
unbegun n (Open d) None e = absurd cc
unbegun n (Open d) (Some s) e = absurd (kept_begun n (next_sketch d s) e)
unbegun n (Rejected r) None e = absurd cc
unbegun n (Rejected r) (Some s) e = absurd cc

pub still_unbegun : (n : ℕ) (first now : Scan) (next : State) (text line rest after : List ℕ) → lines rest ≡ line ∷ lines after → next ≡ with_optional_statement n (state_of now.progress) (line_statement line)
    → IsUnbegun first text now rest → next ≡ Start → (state_of first.progress ≡ Start) × (statements_of after ≡ statements_of text)
still_unbegun n first now next text line rest after parts e h start =
    let p = unbegun n (state_of now.progress) (line_statement line) (sym e ∙ start) in
    let q = h p.0 in
    (q.0, sym (statements_split line rest after parts ∙ ap (λ (x : Option LineStatement). cons_option x (statements_of after)) p.1) ∙ q.1)

begins_by : (x y : Option LineStatement) (more : List LineStatement) → y ≡ option_map cut_statement x → BeginsProblem (option_to_list y) → BeginsProblem (cons_option x more)
begins_by None y more e h = absurd (let none : BeginsProblem [] = subst (λ (z : Option LineStatement). BeginsProblem (option_to_list z)) e h in none)
begins_by (Some (statements.Problem nodes arcs)) y more e h =
    subst (λ (read : Result Sketch LineFault). IsOk read) (new_cut nodes arcs) (subst (λ (z : Option LineStatement). BeginsProblem (option_to_list z)) e h)
begins_by (Some (statements.Node node supply)) y more e h = subst (λ (z : Option LineStatement). BeginsProblem (option_to_list z)) e h
begins_by (Some (statements.Arc src dst low high cost)) y more e h = subst (λ (z : Option LineStatement). BeginsProblem (option_to_list z)) e h
begins_by (Some statements.Other) y more e h = subst (λ (z : Option LineStatement). BeginsProblem (option_to_list z)) e h

-- memory is wanted over the first statement
pub wants_memory : (first now : Scan) (text line rest after : List ℕ) (y : Option LineStatement) → lines rest ≡ line ∷ lines after → y ≡ option_map cut_statement (line_statement line) → IsUnbegun first text now rest
    → (state_of now.progress ≡ Start) × BeginsProblem (option_to_list y) → (state_of first.progress ≡ Start) × BeginsProblem (statements_of text)
wants_memory first now text line rest after y parts e h wants =
    let q = h wants.0 in
    (q.0, subst BeginsProblem (sym (statements_split line rest after parts) ∙ q.1) (begins_by (line_statement line) y (statements_of after) e wants.1))

-- the same behind an Err
pub on_err : {A E : Type 0} (P : Type 0) (r : Result A E) → P → OnErr r P
on_err P (Ok x) p = tt
on_err P (Err e) p = p

-- ---- bytes that end with an LF

last_is : (x : ℕ) (xs : List ℕ) → (front : List ℕ) × (x ∷ xs ≡ front ++ slice_index (x ∷ xs) (length (x ∷ xs) - 1) ∷ [])
last_is x [] = ([], refl)
last_is x (y ∷ ys) =
    let p = last_is y ys in
    let same : slice_index (x ∷ y ∷ ys) (length (x ∷ y ∷ ys) - 1) ≡ slice_index (y ∷ ys) (length (y ∷ ys) - 1) =
    ap (slice_index (x ∷ y ∷ ys)) (let e : length (x ∷ y ∷ ys) - 1 ≡ suc (length ys) = omega arith in e) ∙ sym (ap (slice_index (y ∷ ys)) (let e : length (y ∷ ys) - 1 ≡ length ys = omega arith in e)) in
    (x ∷ p.0, ap (λ (l : List ℕ). x ∷ l) p.1 ∙ ap (λ (b : ℕ). x ∷ (p.0 ++ b ∷ [])) (sym same))

-- they are whole lines, whatever was pending and whatever follows
pub whole_lines : (pending whole more : List ℕ) → 0 < length whole → EndsLine whole → lines (pending ++ (whole ++ more)) ≡ lines (pending ++ whole) ++ lines more
whole_lines pending [] more some ends = absurd (omega arith)
whole_lines pending (x ∷ xs) more some ends =
    let p = last_is x xs in
    let is : x ∷ xs ≡ p.0 ++ 10 ∷ [] = p.1 ∙ ap (λ (b : ℕ). p.0 ++ b ∷ []) (ends some) in
    let front = pending ++ p.0 in
    let joined : pending ++ (x ∷ xs) ≡ front ++ 10 ∷ [] = ap (λ (l : List ℕ). pending ++ l) is ∙ sym (append_assoc pending p.0 (10 ∷ [])) in
    let longer : pending ++ ((x ∷ xs) ++ more) ≡ front ++ 10 ∷ more =
    sym (append_assoc pending (x ∷ xs) more) ∙ ap (λ (l : List ℕ). l ++ more) joined ∙ append_assoc front (10 ∷ []) more in
    ap lines longer ∙ lines_joined front more ∙ ap (λ (l : List ℕ). lines l ++ lines more) (sym joined)
