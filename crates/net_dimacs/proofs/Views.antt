-- What a line says by what its reading sees of its fields: the first seven decide.
use Rattle.std.proofs.Common.{◌≡◌, ◌≤◌, ℕ, Bool, true, false, List, [], ◌∷◌, ◌++◌, ℤ, Some, None, refl, sym, ap, ◌∙◌, length, map, codes, arith}
use Rattle.std.specs.Prelude.{Option, if◌then◌else◌}
use Rattle.std.specs.Option.{option_map}
use Rattle.net_dimacs.specs.Lines.{fields_of, is_text}
use Rattle.net_dimacs.specs.declared.problem_line.LineStatement.{LineStatement}
use Rattle.net_dimacs.specs.declared.problem_line.LineStatement.TheVariants as statements
use Rattle.net_dimacs.specs.declared.problem_line.LineKind.{LineKind}
use Rattle.net_dimacs.specs.declared.problem_line.LineKind.TheVariants as kinds
use Rattle.net_dimacs.specs.Numbers.{cut_statement, Numerals, cut_number, two_in, arc_in, node_in, kind_of, or_other, statement_of_kind}
use Rattle.net_dimacs.specs.OpenLines.{View, view}
use Rattle.net_dimacs.specs.Reading.{line_statement}
use Rattle.net_dimacs.proofs.Saying.{line_says, blank_says}

abbrev numbers_seen : List View → Numerals
numbers_seen vs = map (λ (v : View). v.number) vs

abbrev min_seen : Bool → List View → Option LineStatement
min_seen is_min vs = if is_min then option_map (λ p. statements.Problem p.0 p.1) (two_in (numbers_seen vs)) else None

abbrev problem_seen : List View → Option LineStatement
problem_seen [] = None
problem_seen (v ∷ vs) = min_seen v.is_min vs

abbrev seen_after : LineKind → List View → Option LineStatement
seen_after kinds.Comment vs = None
seen_after kinds.Problem vs = Some (or_other (problem_seen vs))
seen_after kinds.Node vs = Some (or_other (node_in (numbers_seen vs)))
seen_after kinds.Arc vs = Some (or_other (arc_in (numbers_seen vs)))
seen_after kinds.Other vs = Some statements.Other

abbrev pub seen : List View → Option LineStatement
seen [] = None
seen (v ∷ vs) = seen_after v.kind vs

-- ---- a line is what is seen of it

same_numbers : (fs : List (List ℕ)) → map cut_number fs ≡ numbers_seen (map view fs)
same_numbers [] = refl
same_numbers (f ∷ fs) = ap (λ (os : Numerals). cut_number f ∷ os) (same_numbers fs)

same_after : (k : LineKind) (fs : List (List ℕ)) → statement_of_kind k fs ≡ seen_after k (map view fs)
same_after kinds.Comment fs = refl
same_after kinds.Problem [] = refl
same_after kinds.Problem (f ∷ fs) =
    ap (λ (os : Numerals). Some (or_other (if is_text (codes "min") f then option_map (λ p. statements.Problem p.0 p.1) (two_in os) else None))) (same_numbers fs)
same_after kinds.Node fs = ap (λ (os : Numerals). Some (or_other (node_in os))) (same_numbers fs)
same_after kinds.Arc fs = ap (λ (os : Numerals). Some (or_other (arc_in os))) (same_numbers fs)
same_after kinds.Other fs = refl

same_line : (line : List ℕ) (fs : List (List ℕ)) → fields_of line ≡ fs → option_map cut_statement (line_statement line) ≡ seen (map view fs)
same_line line [] e = sym (blank_says line e)
same_line line (f ∷ fs) e = sym (line_says line f fs e) ∙ same_after (kind_of f) fs

pub line_seen : (line : List ℕ) → option_map cut_statement (line_statement line) ≡ seen (map view (fields_of line))
line_seen line = same_line line (fields_of line) refl

-- ---- seven fields are too many for each kind of line

no_two : (a b c : Option ℤ) (more : Numerals) → two_in (a ∷ b ∷ c ∷ more) ≡ None
no_two None b c more = refl
no_two (Some x) None c more = refl
no_two (Some x) (Some y) c more = refl

no_arc : (a b c d e f : Option ℤ) (more : Numerals) → arc_in (a ∷ b ∷ c ∷ d ∷ e ∷ f ∷ more) ≡ None
no_arc None b c d e f more = refl
no_arc (Some u) None c d e f more = refl
no_arc (Some u) (Some v) None d e f more = refl
no_arc (Some u) (Some v) (Some w) None e f more = refl
no_arc (Some u) (Some v) (Some w) (Some x) None f more = refl
no_arc (Some u) (Some v) (Some w) (Some x) (Some y) f more = refl

no_min : (is_min : Bool) (c d e : View) (vs : List View) → min_seen is_min (c ∷ d ∷ e ∷ vs) ≡ None
no_min true c d e vs = ap (option_map (λ p. statements.Problem p.0 p.1)) (no_two c.number d.number e.number (numbers_seen vs))
no_min false c d e vs = refl

abbrev nothing_or_other : LineKind → Option LineStatement
nothing_or_other kinds.Comment = None
nothing_or_other kind = Some statements.Other

too_many : (k : LineKind) (b c d e f g : View) (vs : List View) → seen_after k (b ∷ c ∷ d ∷ e ∷ f ∷ g ∷ vs) ≡ nothing_or_other k
too_many kinds.Comment b c d e f g vs = refl
too_many kinds.Problem b c d e f g vs = ap (λ (o : Option LineStatement). Some (or_other o)) (no_min b.is_min c d e (f ∷ g ∷ vs))
too_many kinds.Node b c d e f g vs =
    ap (λ (o : Option (ℤ × ℤ)). Some (or_other (option_map (λ p. statements.Node p.0 p.1) o))) (no_two b.number c.number d.number (numbers_seen (e ∷ f ∷ g ∷ vs)))
too_many kinds.Arc b c d e f g vs =
    ap (λ (o : Option LineStatement). Some (or_other o)) (no_arc b.number c.number d.number e.number f.number g.number (numbers_seen vs))
too_many kinds.Other b c d e f g vs = refl

pub seven_decide : (vs xs ys : List View) → 7 ≤ length vs → seen (vs ++ xs) ≡ seen (vs ++ ys)
seven_decide [] xs ys h = absurd (omega (arith, h))
seven_decide (a ∷ []) xs ys h = absurd (omega (arith, h))
seven_decide (a ∷ b ∷ []) xs ys h = absurd (omega (arith, h))
seven_decide (a ∷ b ∷ c ∷ []) xs ys h = absurd (omega (arith, h))
seven_decide (a ∷ b ∷ c ∷ d ∷ []) xs ys h = absurd (omega (arith, h))
seven_decide (a ∷ b ∷ c ∷ d ∷ e ∷ []) xs ys h = absurd (omega (arith, h))
seven_decide (a ∷ b ∷ c ∷ d ∷ e ∷ f ∷ []) xs ys h = absurd (omega (arith, h))
seven_decide (a ∷ b ∷ c ∷ d ∷ e ∷ f ∷ g ∷ vs) xs ys h = too_many a.kind b c d e f g (vs ++ xs) ∙ sym (too_many a.kind b c d e f g (vs ++ ys))
