-- What an objective comes to is worth what its expression is worth.
use Rattle.std.specs.Prelude.{◌≡◌, ℕ, Bool, true, false, not, ◌&&◌, ◌||◌, Option, None, Some, Result, Ok, Err, IfOk, ℤ, pos}
use Rattle.std.proofs.Common.{ap, sym, ◌∙◌}
use Rattle.net_base.specs.declared.diagnostic.Span.{Span}
use Rattle.net_tree.specs.Spans.{span_of}
use Rattle.net_tree.specs.Tree.{Tree, Links, Part, leaf, indexed, parens, tuple, negated, braced, signed, reduced, chain, choice, net, none, link, absent, part}
use Rattle.net_expr.specs.Numbers.{turned}
use Rattle.net_tree.specs.Operations.{reduction, is_minus, operation}
use Rattle.net_expr.specs.Values.{index}
use Rattle.net_expr.specs.Worlds.{World, Scope}
use Rattle.net_linear.specs.Arcs.{Arcs, declared, is_arc, arc_at}
use Rattle.net_linear.specs.Forms.{Linear, Term, just, join, turn, as_form, form_at}
use Rattle.net_linear.specs.Laws.{HaveValue}
use Rattle.net_linear.specs.Objectives.{names_arc, any_arc, braces_arc, is_sum, is_linear, key_of, condition, objective, otherwise, chained, objective_form}
use Rattle.net_base.specs.Outcomes.{Outcome, Refines, and_then}
use Rattle.net_base.specs.declared.diagnostic.Fault.{Fault}
use Rattle.net_linear.specs.ObjectiveValues.{combine, value_of_tree, value_of_else, value_of_chain}
use Rattle.net_linear.proofs.FormLaws.{term_at, same_term, form_just, join_ok, turn_ok, total_ok, mixed_ok, no_arcs, linear_ok, arc_ok, choose_ok}
use Rattle.net_linear.proofs.Ranges.{ok_then}

mutual
  law : (x : ℕ → ℤ) (a : Arcs) (w : World) (s : Scope) (t : Tree) (r : Term) → objective a w s t ≡ Ok r → term_at x r ≡ value_of_tree a w s t x
  law x a w s (leaf t) r e = mixed_ok x w s (leaf t) (is_arc a t.text) _ r _ e (λ h. arc_ok x _ r h)
  law x a w s (indexed n o y l c) r e =
      mixed_ok x w s (indexed n o y l c) (names_arc a (indexed n o y l c)) _ r _ e (λ h. arc_ok x _ r (linear_ok (span_of (indexed n o y l c)) (not (names_arc a y || any_arc a l)) _ r h))
  law x a w s (parens o y c) r e = mixed_ok x w s (parens o y c) (names_arc a y) (objective a w s y) r _ e (λ h. law x a w s y r h)
  law x a w s (tuple o y l c) r e = no_arcs x w s (tuple o y l c) (names_arc a (tuple o y l c)) (span_of (tuple o y l c)) r e
  law x a w s (negated n o y c) r e = no_arcs x w s (negated n o y c) (names_arc a y) (span_of (negated n o y c)) r e
  law x a w s (braced b) r e = no_arcs x w s (braced b) (braces_arc a b) (span_of (braced b)) r e
  law x a w s (signed t y) r e =
      mixed_ok x w s (signed t y) (names_arc a y) _ r _ e
      (λ h. ok_then (objective a w s y) (turn (is_minus t) (span_of (signed t y))) r h (λ u i j. turn_ok x (is_minus t) (span_of (signed t y)) u r j ∙ ap (turned (is_minus t)) (law x a w s y u i)))
  law x a w s (reduced m b y) r e =
      mixed_ok x w s (reduced m b y) (names_arc a (reduced m b y)) _ r _ e
      (λ h. total_ok x (span_of (reduced m b y)) (λ row. objective a w row.scope y) (λ q. value_of_tree a w q y x) (λ row u i. law x a w row.scope y u i) (index w s b) r
      (linear_ok (span_of (reduced m b y)) (is_sum (reduction m) && not (braces_arc a b)) _ r h))
  law x a w s (chain n y l) r e =
      mixed_ok x w s (chain n y l) (names_arc a (chain n y l)) _ r _ e
      (λ h. ok_then (objective a w s y) (chained a (span_of (chain n y l)) w s l) r (linear_ok (span_of (chain n y l)) (is_linear a y l) _ r h)
      (λ u i j. law_chain x a (span_of (chain n y l)) w s l u r j ∙ ap (λ (m : ℤ). value_of_chain a w s l m x) (law x a w s y u i)))
  law x a w s (choice i y t z p) r e =
      mixed_ok x w s (choice i y t z p) (names_arc a (choice i y t z p)) _ r _ e
      (λ h. choose_ok x (condition w s (span_of (choice i y t z p)) y) (objective a w s z) (otherwise a w s p) r _ _
      (linear_ok (span_of (choice i y t z p)) (not (names_arc a y)) _ r h) (λ k. law x a w s z r k) (λ k. law_else x a w s p r k))
  law x a w s (net t u) r e = no_arcs x w s (net t u) false (span_of (net t u)) r e

  law_else : (x : ℕ → ℤ) (a : Arcs) (w : World) (s : Scope) (p : Part) (r : Term) → otherwise a w s p ≡ Ok r → term_at x r ≡ value_of_else a w s p x
  law_else x a w s absent r e = same_term (just (pos 0)) r x e ∙ form_just x (pos 0)
  law_else x a w s (part m y) r e = law x a w s y r e

  law_chain : (x : ℕ → ℤ) (a : Arcs) (at : Span) (w : World) (s : Scope) (l : Links) (u r : Term) → chained a at w s l u ≡ Ok r → term_at x r ≡ value_of_chain a w s l (term_at x u) x
  law_chain x a at w s none u r e = let same : u ≡ r = cc in ap (term_at x) (sym same)
  law_chain x a at w s (link o y l) u r e =
      ok_then (objective a w s y) _ r e (λ v h k. ok_then (join (operation o) at u v) (chained a at w s l) r k
      (λ z i j. law_chain x a at w s l z r j ∙ ap (λ (m : ℤ). value_of_chain a w s l m x) (join_ok x (operation o) at u v z i ∙ ap (combine (operation o) (term_at x u)) (law x a w s y v h))))

form_of : (x : ℕ → ℤ) (at : Span) (u : Term) (f : Linear) → as_form at u ≡ Ok f → form_at x f ≡ term_at x u
form_of x at None f e = cc
form_of x at (Some g) f e = let same : g ≡ f = cc in ap (form_at x) (sym same)

pub have_value : HaveValue
have_value a w s t f e x = ok_then (objective a w s t) (as_form (span_of t)) f e (λ u h k. form_of x (span_of t) u f k ∙ law x a w s t u h)

pub worth_by : (a : Arcs) (w : World) (s : Scope) (t : Tree) (r : Result Linear Fault) → Refines (objective_form a w s t) r → IfOk r (λ f. (x : ℕ → ℤ) → form_at x f ≡ value_of_tree a w s t x)
worth_by a w s t (Ok f) e = have_value a w s t f e
worth_by a w s t (Err f) e = tt
