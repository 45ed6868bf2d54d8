-- The numbers of a problem line as the reader stores them: saturated to 64 bits, which changes no
-- error.
use Rattle.std.specs.Prelude.{◌≡◌, ℕ, ◌-◌, ◌^◌, ◌<◌, ◌≤◌, true, length, take, drop, slice_index, min, if◌then◌else◌, List, [], ◌∷◌, map, codes, ℤ, pos, negsuc, neg_ℤ, suc, Option, Some, None, unwrap_or}
use Rattle.std.specs.Option.{option_map, option_and_then}
use Rattle.std.specs.Str.{all_ascii_digits}
use Rattle.net_dimacs.specs.Lines.{is_blank, value_after, fields_of, number_of, is_text, begins_with}
use Rattle.net_dimacs.specs.declared.problem_line.LineStatement.{LineStatement}
use Rattle.net_dimacs.specs.declared.problem_line.LineStatement.TheVariants as statements
use Rattle.net_dimacs.specs.declared.problem_line.LineKind.{LineKind}
use Rattle.net_dimacs.specs.declared.problem_line.LineKind.TheVariants as kinds

abbrev pub greatest_signed : ℕ
greatest_signed = 2 ^ 63 - 1

-- saturated to the range -(2^63 - 1) to 2^63 - 1
abbrev pub cut : ℤ → ℤ
cut (pos n) = pos (min n greatest_signed)
cut (negsuc n) = neg_ℤ (pos (min (suc n) greatest_signed))

abbrev pub cut_statement : LineStatement → LineStatement
cut_statement (statements.Problem nodes arcs) = statements.Problem (cut nodes) (cut arcs)
cut_statement (statements.Node node supply) = statements.Node (cut node) (cut supply)
cut_statement (statements.Arc src dst low cap cost) = statements.Arc (cut src) (cut dst) (cut low) (cut cap) (cut cost)
cut_statement statements.Other = statements.Other

-- the fields as numbers, or None for a field that is not a number
abbrev pub Numerals : Type 0
Numerals = List (Option ℤ)

abbrev pub cut_number : List ℕ → Option ℤ
cut_number field = option_map cut (number_of field)

abbrev pub cut_numbers : List ℕ → Numerals
cut_numbers bytes = map cut_number (fields_of bytes)

-- the first field, if it is a number, and the fields after it
abbrev pub first_number : Numerals → Option (ℤ × Numerals)
first_number [] = None
first_number (None ∷ more) = None
first_number (Some z ∷ more) = Some (z, more)

-- the bytes begin with digits that extend to a space, a tab or the end: their number, and what
-- follows
pub record BeginsWithDigits (bytes after : List ℕ) (number : ℤ) : Type 0 where
  pub count : ℕ
  pub some : 0 < count
  pub within : count ≤ length bytes
  pub digits : all_ascii_digits (take count bytes) ≡ true
  pub value : number ≡ pos (value_after 0 (take count bytes))
  pub small : value_after 0 (take count bytes) < 10 ^ 18
  pub rest : after ≡ drop count bytes
  pub ends : 0 < length after → is_blank (slice_index after 0) ≡ true

-- x, if no field is left
abbrev pub at_end : {A : Type 0} → A → Numerals → Option A
at_end x [] = Some x
at_end x (field ∷ more) = None

-- exactly two numbers
abbrev pub two_in : Numerals → Option (ℤ × ℤ)
two_in fields = option_and_then (λ a. option_and_then (λ b. at_end (a.0, b.0) b.1) (first_number a.1)) (first_number fields)

-- exactly the five numbers of an arc
abbrev pub arc_in : Numerals → Option LineStatement
arc_in fields =
    option_and_then (λ a. option_and_then (λ b. option_and_then (λ c. option_and_then (λ d. option_and_then
    (λ e. at_end (statements.Arc a.0 b.0 c.0 d.0 e.0) e.1) (first_number d.1)) (first_number c.1)) (first_number b.1)) (first_number a.1)) (first_number fields)

abbrev pub node_in : Numerals → Option LineStatement
node_in fields = option_map (λ p. statements.Node p.0 p.1) (two_in fields)

-- the fields after `p`
abbrev pub problem_in : List (List ℕ) → Option LineStatement
problem_in [] = None
problem_in (field ∷ more) = if is_text (codes "min") field then option_map (λ p. statements.Problem p.0 p.1) (two_in (map cut_number more)) else None

-- the kind of line that a first field indicates
abbrev pub kind_of : List ℕ → LineKind
kind_of field =
    if begins_with 99 field then kinds.Comment
    else if is_text (codes "p") field then kinds.Problem
    else if is_text (codes "n") field then kinds.Node
    else if is_text (codes "a") field then kinds.Arc
    else kinds.Other

abbrev pub or_other : Option LineStatement → LineStatement
or_other line_statement = unwrap_or line_statement statements.Other

-- the statement of a line of this kind, from the fields after the first
abbrev pub statement_of_kind : LineKind → List (List ℕ) → Option LineStatement
statement_of_kind kinds.Comment fields = None
statement_of_kind kinds.Problem fields = Some (or_other (problem_in fields))
statement_of_kind kinds.Node fields = Some (or_other (node_in (map cut_number fields)))
statement_of_kind kinds.Arc fields = Some (or_other (arc_in (map cut_number fields)))
statement_of_kind kinds.Other fields = Some statements.Other
