-- What a caller of the reader may rely on.
use Rattle.std.proofs.Common.{◌≡◌, ◌≤◌, ◌<◌, ℕ, ◌+◌, Bool, true, false, cond, List, [], ◌∷◌, ℤ, Some, None, Ok, Err, refl, sym, subst, ◌∙◌, length, vec_len, All, arith, inl, inr}
use Rattle.std.specs.Prelude.{◌⊎◌, Option, Result, IfOk, nat_lt}
use Rattle.std.specs.Str.Lines.{lines}
use Rattle.std.proofs.lemmas.Bool.Decides.{nat_tests}
use Rattle.net_normal.specs.Limits.{IsFlowArcOf}
use Rattle.net_normal.specs.declared.problem.FlowArc.{FlowArc}
use Rattle.net_normal.specs.declared.problem.Problem.{Problem}
use Rattle.net_dimacs.specs.declared.problem_line.LineStatement.{LineStatement}
use Rattle.net_dimacs.specs.declared.problem_line.LineStatement.TheVariants as statements
use Rattle.net_dimacs.specs.declared.problem_fault.LineFault.{LineFault}
use Rattle.net_dimacs.specs.declared.problem_fault.LineFault.TheVariants.{TooLarge, Count, NoProblemLine}
use Rattle.net_dimacs.specs.declared.problem_fault.Rejection.{Rejection}
use Rattle.net_dimacs.specs.declared.problem_fault.ProblemFault.{ProblemFault}
use Rattle.net_dimacs.specs.declared.problem_fault.ProblemFault.TheVariants as faults
use Rattle.net_dimacs.specs.Limits.{text_limit}
use Rattle.net_dimacs.specs.Reading.{Sketch, new_sketch, with_node, with_arc, State, Start, Open, Rejected, state_from, with_optional_statement, line_statement, Numbers, finished, read_lines, read_text, Gives, IfRejected}
use Rattle.net_dimacs.specs.Problems.{IsProblemText, IsNoProblemText, IsOnlyProblem}
use Rattle.net_normal.specs.Limits.{IsWithinLimits}
use Rattle.net_dimacs.proofs.Sound.{is_problem_text}
use Rattle.net_dimacs.proofs.Complete.{text_is_read}
use Rattle.net_dimacs.proofs.OneProblem.{one_problem}

abbrev too_long : Rejection
too_long = record { fault = TooLarge; line = 1 }

read_by : (t : Bool) (rest : Result Numbers Rejection) (x : Numbers) → cond t (Err too_long) rest ≡ Ok x → rest ≡ Ok x
read_by true rest x e = absurd cc
read_by false rest x e = e

read_ok : (text : List ℕ) (s : List ℤ) (a : List FlowArc) → read_text text ≡ Ok (s, a) → read_lines 1 Start (lines text) ≡ Ok (s, a)
read_ok text s a e = read_by (nat_lt text_limit (length text)) (read_lines 1 Start (lines text)) (s, a) e

pub is_found : (text : List ℕ) (r : Result Problem ProblemFault) → Gives (read_text text) r → IfOk r (λ p. IsProblemText text p.supplies.items p.arcs.items)
is_found text (Ok p) given = is_problem_text text p.supplies.items p.arcs.items (read_ok text p.supplies.items p.arcs.items given)
is_found text (Err e) given = tt

pub limits_of : (p : Problem) → IsWithinLimits p.supplies.items p.arcs.items
limits_of p = record {
  some_node = omega (arith, p.some_node, p.supplies.ok.0);
  few_nodes = omega (arith, p.few_nodes, p.supplies.ok.0);
  few_arcs = omega (arith, p.few_arcs, p.arcs.ok.0);
  supplies_fit = p.supplies_fit;
  arcs_fit = let e : vec_len p.supplies ≡ length p.supplies.items = omega (arith, p.supplies.ok.0) in subst (λ (n : ℕ). All (IsFlowArcOf n) p.arcs.items) e p.arcs_fit;
}

pub is_only : (text : List ℕ) (r : Result Problem ProblemFault) → Gives (read_text text) r → IfOk r (λ p. IsOnlyProblem text p.supplies.items p.arcs.items)
is_only text (Ok p) given = λ s a t. one_problem text s p.supplies.items a p.arcs.items t (is_found text (Ok p) given)
is_only text (Err e) given = tt

no_problem : (text : List ℕ) (r : Rejection) → read_lines 1 Start (lines text) ≡ Err r → IsNoProblemText text
no_problem text r e = λ s a fit t. let read = text_is_read text s a t fit in let h = sym e ∙ read in cc

rejected_by : (text : List ℕ) (r : Rejection) (t : Bool) → nat_lt text_limit (length text) ≡ t → cond t (Err too_long) (read_lines 1 Start (lines text)) ≡ Err r → (text_limit < length text) ⊎ IsNoProblemText text
rejected_by text r true long e = inl (grind (arith, nat_tests))
rejected_by text r false long e = inr (no_problem text r e)

pub is_rejected : (text : List ℕ) (r : Result Problem ProblemFault) → Gives (read_text text) r → IfRejected r (λ _. (text_limit < length text) ⊎ IsNoProblemText text)
is_rejected text (Ok p) given = tt
is_rejected text (Err faults.OutOfMemory) given = tt
is_rejected text (Err (faults.Rejected r)) given = rejected_by text r (nat_lt text_limit (length text)) refl given

-- ---- the line of a refusal

record IsAt (from to : ℕ) (r : Rejection) : Type 0 where
  low : from ≤ r.line
  high : r.line ≤ to

abbrev IsPlaced : ℕ → State → Type 0
IsPlaced line Start = Unit {0}
IsPlaced line (Open d) = Unit {0}
IsPlaced line (Rejected r) = IsAt 1 line r

kept_placed : (line : ℕ) (read : Result Sketch LineFault) → 1 ≤ line → IsPlaced (line + 1) (state_from line read)
kept_placed line (Ok d) some = tt
kept_placed line (Err fault) some = record { low = some; high = omega arith }

said_placed : (line : ℕ) (state : State) (x : Option LineStatement) → 1 ≤ line → IsPlaced line state → IsPlaced (line + 1) (with_optional_statement line state x)
said_placed line Start None some here = tt
said_placed line (Open d) None some here = tt
said_placed line (Rejected r) None some here = record { low = here.low; high = omega (arith, here.high) }
said_placed line Start (Some (statements.Problem nodes arcs)) some here = kept_placed line (new_sketch nodes arcs) some
said_placed line Start (Some (statements.Node node supply)) some here = record { low = some; high = omega arith }
said_placed line Start (Some (statements.Arc src dst low cap cost)) some here = record { low = some; high = omega arith }
said_placed line Start (Some statements.Other) some here = record { low = some; high = omega arith }
said_placed line (Open d) (Some (statements.Problem nodes arcs)) some here = record { low = some; high = omega arith }
said_placed line (Open d) (Some (statements.Node node supply)) some here = kept_placed line (with_node d node supply) some
said_placed line (Open d) (Some (statements.Arc src dst low cap cost)) some here = kept_placed line (with_arc d src dst low cap cost) some
said_placed line (Open d) (Some statements.Other) some here = record { low = some; high = omega arith }
said_placed line (Rejected r) (Some x) some here = record { low = here.low; high = omega (arith, here.high) }

end_by : (t : Bool) (line : ℕ) (x : Numbers) (r : Rejection) → 1 ≤ line → cond t (Err (record { fault = Count; line = line })) (Ok x) ≡ Err r → IsAt 1 line r
end_by true line x r some e = let same : (record { fault = Count; line = line }) ≡ r = cc in subst (IsAt 1 line) same (record { low = some; high = omega arith })
end_by false line x r some e = absurd cc

end_placed : (line : ℕ) (state : State) (r : Rejection) → 1 ≤ line → IsPlaced line state → finished line state ≡ Err r → IsAt 1 line r
end_placed line Start r some here e = let same : (record { fault = NoProblemLine; line = line }) ≡ r = cc in subst (IsAt 1 line) same (record { low = some; high = omega arith })
end_placed line (Open d) r some here e = end_by (nat_lt (length d.arcs) d.arc_count) line (d.supplies, d.arcs) r some e
end_placed line (Rejected x) r some here e = let same : x ≡ r = cc in subst (IsAt 1 line) same here

lines_placed : (line : ℕ) (state : State) (ls : List (List ℕ)) (r : Rejection) → 1 ≤ line → IsPlaced line state → read_lines line state ls ≡ Err r → IsAt 1 (line + length ls) r
lines_placed line state [] r some here e = let at = end_placed line state r some here e in record { low = at.low; high = omega (arith, at.high) }
lines_placed line state (l ∷ ls) r some here e =
    let at = lines_placed (line + 1) (with_optional_statement line state (line_statement l)) ls r (omega arith) (said_placed line state (line_statement l) some here) e in
    record { low = at.low; high = omega (arith, at.high) }

placed_by : (text : List ℕ) (r : Rejection) (t : Bool) → cond t (Err too_long) (read_lines 1 Start (lines text)) ≡ Err r → (1 ≤ r.line) × (r.line ≤ length (lines text) + 1)
placed_by text r true e = let same : too_long ≡ r = cc in subst (λ (x : Rejection). (1 ≤ x.line) × (x.line ≤ length (lines text) + 1)) same (omega arith, omega arith)
placed_by text r false e = let at = lines_placed 1 Start (lines text) r (omega arith) tt e in (at.low, omega (arith, at.high))

pub is_placed : (text : List ℕ) (r : Result Problem ProblemFault) → Gives (read_text text) r → IfRejected r (λ x. (1 ≤ x.line) × (x.line ≤ length (lines text) + 1))
is_placed text (Ok p) given = tt
is_placed text (Err faults.OutOfMemory) given = tt
is_placed text (Err (faults.Rejected r)) given = placed_by text r (nat_lt text_limit (length text)) given
