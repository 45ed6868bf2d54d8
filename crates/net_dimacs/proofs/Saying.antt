-- What a line says by its kind and its numbers is what its words say, cut off.
use Rattle.std.proofs.Common.{◌≡◌, ℕ, ◌==◌, Bool, true, false, cond, ◌&&◌, List, [], ◌∷◌, ℤ, Some, None, refl, sym, ap, ◌∙◌, map, codes}
use Rattle.std.specs.Prelude.{Option}
use Rattle.std.specs.Option.{option_map}
use Rattle.std.proofs.lemmas.Bool.{eqb-true}
use Rattle.net_dimacs.specs.Words.{Word}
use Rattle.net_dimacs.specs.Words as words
use Rattle.net_dimacs.specs.Lines.{fields_of, begins_with, is_text, number_of, number_or_other, word_of}
use Rattle.net_dimacs.specs.declared.problem_line.LineStatement.TheVariants as statements
use Rattle.net_dimacs.specs.declared.problem_line.LineKind.TheVariants as kinds
use Rattle.net_dimacs.specs.Numbers.{cut, cut_statement, Numerals, cut_number, two_in, arc_in, node_in, problem_in, kind_of, or_other, statement_of_kind}
use Rattle.net_dimacs.specs.Reading.{statement_of, line_statement}

abbrev cut_in : Word → Option ℤ
cut_in (words.Number z) = Some (cut z)
cut_in word = None

abbrev cuts : List Word → Numerals
cuts ws = map cut_in ws

-- ---- the five numbers of an arc, and the two of a node or a problem

arc_says : (ws : List Word) → option_map cut_statement (statement_of (words.Arc ∷ ws)) ≡ Some (or_other (arc_in (cuts ws)))
arc_says (words.Number a ∷ words.Number b ∷ words.Number c ∷ words.Number d ∷ words.Number e ∷ []) = refl
arc_says ws = refl

node_says : (ws : List Word) → option_map cut_statement (statement_of (words.Node ∷ ws)) ≡ Some (or_other (node_in (cuts ws)))
node_says (words.Number a ∷ words.Number b ∷ []) = refl
node_says ws = refl

min_says : (ws : List Word) → option_map cut_statement (statement_of (words.Problem ∷ words.Min ∷ ws)) ≡ Some (or_other (option_map (λ p. statements.Problem p.0 p.1) (two_in (cuts ws))))
min_says (words.Number a ∷ words.Number b ∷ []) = refl
min_says ws = refl

-- ---- fields

both : (s t : Bool) → (s && t) ≡ true → (s ≡ true) × (t ≡ true)
both true true e = (refl, refl)
both true false e = absurd cc
both false t e = absurd cc

is_the_text : (t field : List ℕ) → is_text t field ≡ true → field ≡ t
is_the_text [] [] e = refl
is_the_text [] (b ∷ bs) e = absurd cc
is_the_text (a ∷ t) [] e = absurd cc
is_the_text (a ∷ t) (b ∷ bs) e =
    let p = both (b == a) (is_text t bs) e in
    let first : b ≡ a = eqb-true b a p.0 in
    let more : bs ≡ t = is_the_text t bs p.1 in
    cc

-- a field is a number exactly where its word is one
word_by : (c p n a m : Bool) (o : Option ℤ) → (c ≡ true → o ≡ None) → (p ≡ true → o ≡ None) → (n ≡ true → o ≡ None) → (a ≡ true → o ≡ None) → (m ≡ true → o ≡ None)
    → cut_in (cond c words.Comment (cond p words.Problem (cond n words.Node (cond a words.Arc (cond m words.Min (number_or_other o)))))) ≡ option_map cut o
word_by true p n a m o e1 e2 e3 e4 e5 = ap (option_map cut) (sym (e1 refl))
word_by false true n a m o e1 e2 e3 e4 e5 = ap (option_map cut) (sym (e2 refl))
word_by false false true a m o e1 e2 e3 e4 e5 = ap (option_map cut) (sym (e3 refl))
word_by false false false true m o e1 e2 e3 e4 e5 = ap (option_map cut) (sym (e4 refl))
word_by false false false false true o e1 e2 e3 e4 e5 = ap (option_map cut) (sym (e5 refl))
word_by false false false false false None e1 e2 e3 e4 e5 = refl
word_by false false false false false (Some z) e1 e2 e3 e4 e5 = refl

text_no_number : (t field : List ℕ) → number_of t ≡ None → is_text t field ≡ true → number_of field ≡ None
text_no_number t field none e = ap number_of (is_the_text t field e) ∙ none

c_no_number : (field : List ℕ) → begins_with 99 field ≡ true → number_of field ≡ None
c_no_number [] e = refl
c_no_number (b ∷ bs) e = ap (λ (x : ℕ). number_of (x ∷ bs)) (eqb-true b 99 e)

number_of_word : (field : List ℕ) → cut_in (word_of field) ≡ cut_number field
number_of_word field =
    word_by (begins_with 99 field) (is_text (codes "p") field) (is_text (codes "n") field) (is_text (codes "a") field) (is_text (codes "min") field) (number_of field)
    (c_no_number field) (text_no_number (codes "p") field refl) (text_no_number (codes "n") field refl) (text_no_number (codes "a") field refl) (text_no_number (codes "min") field refl)

numbers_of_words : (fields : List (List ℕ)) → cuts (map word_of fields) ≡ map cut_number fields
numbers_of_words [] = refl
numbers_of_words (f ∷ fs) = ap (λ (o : Option ℤ). o ∷ cuts (map word_of fs)) (number_of_word f) ∙ ap (λ (os : Numerals). cut_number f ∷ os) (numbers_of_words fs)

-- ---- a line by its first field

no_min : (c p n a : Bool) (o : Option ℤ) (ws : List Word) → statement_of (words.Problem ∷ cond c words.Comment (cond p words.Problem (cond n words.Node (cond a words.Arc (number_or_other o)))) ∷ ws) ≡ Some statements.Other
no_min true p n a o ws = refl
no_min false true n a o ws = refl
no_min false false true a o ws = refl
no_min false false false true o ws = refl
no_min false false false false None ws = refl
no_min false false false false (Some z) ws = refl

problem_by : (field : List ℕ) (fields : List (List ℕ)) (t : Bool) → is_text (codes "min") field ≡ t
    → option_map cut_statement (statement_of (words.Problem ∷ word_of field ∷ map word_of fields)) ≡ Some (or_other (cond t (option_map (λ p. statements.Problem p.0 p.1) (two_in (map cut_number fields))) None))
problem_by field fields true e =
    ap (λ (f : List ℕ). option_map cut_statement (statement_of (words.Problem ∷ word_of f ∷ map word_of fields))) (is_the_text (codes "min") field e)
    ∙ min_says (map word_of fields)
    ∙ ap (λ (os : Numerals). Some (or_other (option_map (λ p. statements.Problem p.0 p.1) (two_in os)))) (numbers_of_words fields)
problem_by field fields false e =
    ap (option_map cut_statement)
    (ap (λ (t : Bool). statement_of (words.Problem ∷ cond (begins_with 99 field) words.Comment (cond (is_text (codes "p") field) words.Problem (cond (is_text (codes "n") field) words.Node (cond (is_text (codes "a") field) words.Arc (cond t words.Min (number_or_other (number_of field)))))) ∷ map word_of fields)) e
    ∙ no_min (begins_with 99 field) (is_text (codes "p") field) (is_text (codes "n") field) (is_text (codes "a") field) (number_of field) (map word_of fields))

problem_says : (fields : List (List ℕ)) → option_map cut_statement (statement_of (words.Problem ∷ map word_of fields)) ≡ Some (or_other (problem_in fields))
problem_says [] = refl
problem_says (f ∷ fs) = problem_by f fs (is_text (codes "min") f) refl

other_says : (m : Bool) (o : Option ℤ) (ws : List Word) → option_map cut_statement (statement_of (cond m words.Min (number_or_other o) ∷ ws)) ≡ Some statements.Other
other_says true o ws = refl
other_says false None ws = refl
other_says false (Some z) ws = refl

by_kind : (c p n a m : Bool) (o : Option ℤ) (fields : List (List ℕ))
    → option_map cut_statement (statement_of (cond c words.Comment (cond p words.Problem (cond n words.Node (cond a words.Arc (cond m words.Min (number_or_other o))))) ∷ map word_of fields))
    ≡ statement_of_kind (cond c kinds.Comment (cond p kinds.Problem (cond n kinds.Node (cond a kinds.Arc kinds.Other)))) fields
by_kind true p n a m o fields = refl
by_kind false true n a m o fields = problem_says fields
by_kind false false true a m o fields = node_says (map word_of fields) ∙ ap (λ (os : Numerals). Some (or_other (node_in os))) (numbers_of_words fields)
by_kind false false false true m o fields = arc_says (map word_of fields) ∙ ap (λ (os : Numerals). Some (or_other (arc_in os))) (numbers_of_words fields)
by_kind false false false false m o fields = other_says m o (map word_of fields)

pub line_says : (line : List ℕ) (field : List ℕ) (more : List (List ℕ)) → fields_of line ≡ field ∷ more → statement_of_kind (kind_of field) more ≡ option_map cut_statement (line_statement line)
line_says line field more e =
    sym (ap (λ (fs : List (List ℕ)). option_map cut_statement (statement_of (map word_of fs))) e
    ∙ by_kind (begins_with 99 field) (is_text (codes "p") field) (is_text (codes "n") field) (is_text (codes "a") field) (is_text (codes "min") field) (number_of field) more)

pub blank_says : (line : List ℕ) → fields_of line ≡ [] → None ≡ option_map cut_statement (line_statement line)
blank_says line e = sym (ap (λ (fs : List (List ℕ)). option_map cut_statement (statement_of (map word_of fs))) e)
