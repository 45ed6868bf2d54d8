-- Statements, read one by one.
use Rattle.std.proofs.Common.{◌≡◌, ℕ, suc, ◌+◌, ◌≤◌, ◌<◌, List, [], ◌∷◌, ◌++◌, length, Some, None, Result, Ok, Err, refl, ap, sym, ◌∙◌, append_assoc, arith, length-append, ◌-◌, subst}
use Rattle.std.proofs.lemmas.List.{append-nil}
use Rattle.net_lex.specs.declared.token.Token.{Token}
use Rattle.net_data.specs.declared.statement.Statement.{Statement}
use Rattle.net_data.specs.declared.data_parser.ParseError.{ParseError}
use Rattle.net_base.specs.declared.diagnostic.Fault.{Fault}
use Rattle.net_data.specs.declared.data_parser.StatementStop.{StatementStop}
use Rattle.net_data.specs.declared.data_parser.StatementStop.TheVariants as statement_stops
use Rattle.net_data.specs.Reading.{Read, statement, statements, with_statement, fault_of, statement_fault, Stops, Fails}

-- these statements, and then what is read
abbrev pub with_statements : List Statement → Read (List Statement) → Read (List Statement)
with_statements found (Ok x) = Ok (found ++ x.0, x.1)
with_statements found (Err e) = Err e

with_one : (found : List Statement) (x : Statement) (read : Read (List Statement)) → with_statements found (with_statement x read) ≡ with_statements (found ++ x ∷ []) read
with_one found x (Ok y) = ap (λ z. let r : Read (List Statement) = Ok (z, y.1) in r) (sym (append_assoc found (x ∷ []) y.0))
with_one found x (Err e) = refl

pub with_none : (read : Read (List Statement)) → read ≡ with_statements [] read
with_none (Ok x) = refl
with_none (Err e) = refl

goes_on : (n : ℕ) (tokens rest : List Token) (x : Statement) → statement tokens ≡ Ok (Some (x, rest)) → statements (suc n) tokens ≡ with_statement x (statements n rest)
unfolding statements
goes_on n tokens rest x h = rw h

-- where every number of turns leads from the tokens to the rest with what was found
abbrev pub LeadsTo : List Token → List Statement → List Token → Type 0
LeadsTo tokens found rest = (n : ℕ) → statements (length found + n) tokens ≡ with_statements found (statements n rest)

pub leads_on : (tokens : List Token) (found more : List Statement) (rest after : List Token) (x : Statement) → LeadsTo tokens found rest → statement rest ≡ Ok (Some (x, after)) → more ≡ found ++ x ∷ []
    → LeadsTo tokens more after
leads_on tokens found more rest after x leads h is n =
    let count : length more + n ≡ length found + suc n = rw is (omega (arith, length-append found (x ∷ []))) in
    ap (λ k. statements k tokens) count ∙ leads (suc n) ∙ ap (with_statements found) (goes_on n rest after x h) ∙ with_one found x (statements n after) ∙ ap (λ z. with_statements z (statements n after)) (sym is)

ends : (n : ℕ) (tokens : List Token) → statement tokens ≡ Ok None → statements (suc n) tokens ≡ Ok ([], tokens)
unfolding statements
ends n tokens h = rw h

stops : (n : ℕ) (tokens : List Token) (e : ParseError) → statement tokens ≡ Err e → statements (suc n) tokens ≡ Err e
unfolding statements
stops n tokens e h = rw h

turns_left : (tokens rest : List Token) (found : List Statement) → length found + length rest ≤ length tokens → (n : ℕ) × (suc (length tokens) ≡ length found + suc n)
turns_left tokens rest found le = (length tokens - length found, omega arith)

pub leads_end : (tokens : List Token) (found : List Statement) (rest : List Token) → LeadsTo tokens found rest → length found + length rest ≤ length tokens → statement rest ≡ Ok None
    → statements (suc (length tokens)) tokens ≡ Ok (found, rest)
leads_end tokens found rest leads le h =
    let n = turns_left tokens rest found le in
    ap (λ k. statements k tokens) n.1 ∙ leads (suc n.0) ∙ ap (with_statements found) (ends n.0 rest h) ∙ ap (λ z. let r : Read (List Statement) = Ok (z, rest) in r) (append-nil found)

leads_stop : (tokens : List Token) (found : List Statement) (rest : List Token) (e : ParseError) → LeadsTo tokens found rest → length found + length rest ≤ length tokens → statement rest ≡ Err e
    → statements (suc (length tokens)) tokens ≡ Err e
leads_stop tokens found rest e leads le h =
    let n = turns_left tokens rest found le in
    ap (λ k. statements k tokens) n.1 ∙ leads (suc n.0) ∙ ap (with_statements found) (stops n.0 rest e h)

-- what stops the reading is the fault
fails_at : {A : Type 0} (end : ℕ) (read : Result A ParseError) (e : ParseError) (fault : Fault) → read ≡ Err e → fault ≡ fault_of end e → Fails end read fault
fails_at end read e fault h is = let P : Fault → Type 0 = λ f. Fails end read f in subst P (sym is) (e, h, refl)

-- what keeps a statement from being read is the fault
pub statement_fails : (end : ℕ) (tokens : List Token) (found : List Statement) (rest : List Token) (stop : StatementStop) (fault : Fault) → LeadsTo tokens found rest → length found + length rest ≤ length tokens
    → Stops (statement rest) stop → fault ≡ statement_fault end stop → Fails end (statements (suc (length tokens)) tokens) fault
statement_fails end tokens found rest statement_stops.OutOfMemory fault leads le h is = let P : Fault → Type 0 = λ f. Fails end (statements (suc (length tokens)) tokens) f in subst P (sym is) tt
statement_fails end tokens found rest (statement_stops.Reading e) fault leads le h is = fails_at end _ e fault (leads_stop tokens found rest e leads le h) is

-- one statement more, and fewer tokens
pub count_less : (tokens rest after : List Token) (found more : List Statement) (x : Statement) → length found + length rest ≤ length tokens → length after < length rest → more ≡ found ++ x ∷ []
    → length more + length after ≤ length tokens
count_less tokens rest after found more x le lt is = rw is (omega (arith, length-append found (x ∷ [])))

pub ends_with : (tokens : List Token) (found : List Statement) (rest : List Token) (all : List Statement) (left : List Token) → LeadsTo tokens found rest → length found + length rest ≤ length tokens
    → statement rest ≡ Ok None → all ≡ found → left ≡ rest → statements (suc (length tokens)) tokens ≡ Ok (all, left)
ends_with tokens found rest all left leads le h same over = rw (same, over) (leads_end tokens found rest leads le h)
