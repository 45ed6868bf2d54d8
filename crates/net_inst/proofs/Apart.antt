-- In the forms of objectives no arc stands twice.
use Rattle.std.specs.Prelude.{◌≡◌, ℕ, Bool, true, false, not, ◌&&◌, ◌||◌, List, [], ◌∷◌, Option, None, Some, if◌then◌else◌, Ok, Err, ℤ, pos, int_div, int_rem}
use Rattle.std.proofs.Common.{refl, ap, sym, ◌∙◌, subst}
use Rattle.net_base.specs.declared.diagnostic.Span.{Span}
use Rattle.net_sets.specs.Sets.{Tuple}
use Rattle.net_tree.specs.Spans.{span_of}
use Rattle.net_tree.specs.Tree.{Tree, Links, Part, leaf, indexed, parens, tuple, negated, braced, signed, reduced, chain, choice, net, none, link, absent, part}
use Rattle.net_expr.specs.declared.row.Row.{Row}
use Rattle.net_base.specs.declared.error_code.ErrorCode.TheVariants.{ValueTooLarge, NotLinear}
use Rattle.net_expr.specs.Limits.{is_small}
use Rattle.net_expr.specs.Numbers.{divides}
use Rattle.net_tree.specs.Operations.{reduction, is_minus, operation}
use Rattle.net_expr.specs.Values.{index}
use Rattle.net_expr.specs.Worlds.{Name, World, Scope}
use Rattle.net_tree.specs.declared.operator.BinOp.{BinOp}
use Rattle.net_tree.specs.declared.operator.BinOp.TheVariants.{Plus, Minus, Times, Div, Mod}
use Rattle.net_linear.specs.Arcs.{Arcs, declared, is_arc, arc_at}
use Rattle.net_linear.specs.Forms.{Linear, Term, all_apart, just, one_arc, combined, is_number, is_sized, within, sized, minus_one, divided, joined, join, turn, gathered, gathered_over, total, as_form, or_too_large, priced}
use Rattle.net_linear.specs.Objectives.{names_arc, any_arc, braces_arc, is_sum, is_linear, key_of, condition, plain_term, mixed, linear, arc_term, objective, otherwise, chained, objective_form}
use Rattle.net_base.specs.Outcomes.{Outcome, and_then, rejected}
use Rattle.net_linear.specs.Amounts.{number_or_none}
use Rattle.net_linear.proofs.Coefficients.{apart_with}
use Rattle.net_linear.proofs.Ranges.{ok_then}

abbrev pub IsApart : Term → Type 0
IsApart None = Unit {0}
IsApart (Some f) = all_apart f.products ≡ true

-- of what comes out, if anything does
abbrev Comes : Outcome Term → Type 0
Comes (Ok r) = IsApart r
Comes (Err f) = Unit {0}

comes_then : {A : Type 0} (o : Outcome A) (f : A → Outcome Term) → ((y : A) → o ≡ Ok y → Comes (f y)) → Comes (and_then o f)
comes_then (Ok y) f h = h y refl
comes_then (Err r) f h = tt

comes_if : (b : Bool) (o u : Outcome Term) → Comes o → Comes u → Comes (if b then o else u)
comes_if true o u h k = h
comes_if false o u h k = k

pub comes_as : (o : Outcome Term) (r : Term) → Comes o → o ≡ Ok r → IsApart r
comes_as o r h e = subst Comes e h

apart_sized : (at : Span) (f : Linear) → all_apart f.products ≡ true → Comes (sized at f)
apart_sized at f h = go (is_sized f)
  where
    go : (b : Bool) → Comes (within at (if b then Some f else None))
    go true = h
    go false = tt

apart_scaled : (at : Span) (k : ℤ) (g : Linear) → Comes (sized at (combined (just (pos 0)) k g))
apart_scaled at k g = apart_sized at (combined (just (pos 0)) k g) (apart_with [] k g.products refl)

apart_divided : (at : Span) (h : ℤ → ℤ → ℤ) (f g : Linear) → Comes (divided at h f g)
apart_divided at h f g = comes_if (is_number f.products && is_number g.products) _ _ (comes_if (divides f.constant g.constant) _ _ (apart_sized at (just (h f.constant g.constant)) refl) tt) tt

apart_joined : (j : BinOp) (at : Span) (f g : Linear) → all_apart f.products ≡ true → Comes (joined j at f g)
apart_joined Plus at f g h = apart_sized at (combined f (pos 1) g) (apart_with f.products (pos 1) g.products h)
apart_joined Minus at f g h = apart_sized at (combined f minus_one g) (apart_with f.products minus_one g.products h)
apart_joined Times at f g h = comes_if (is_number f.products) _ _ (apart_scaled at f.constant g) (comes_if (is_number g.products) _ _ (apart_scaled at g.constant f) tt)
apart_joined Div at f g h = apart_divided at int_div f g
apart_joined Mod at f g h = apart_divided at int_rem f g
apart_joined _ at f g h = tt

apart_join : (j : BinOp) (at : Span) (u v : Term) → IsApart u → Comes (join j at u v)
apart_join j at (Some f) (Some g) h = apart_joined j at f g h
apart_join j at (Some f) None h = tt
apart_join j at None v h = tt

apart_turn : (b : Bool) (at : Span) (u : Term) → IsApart u → Comes (turn b at u)
apart_turn b at None h = tt
apart_turn true at (Some f) h = apart_scaled at minus_one f
apart_turn false at (Some f) h = h

apart_gathered : (at : Span) (body : Row → Outcome Term) (rows : List Row) (sum r : Linear) → all_apart sum.products ≡ true → gathered_over at body rows sum ≡ Ok r → all_apart r.products ≡ true
apart_gathered at body [] sum r h e = let same : sum ≡ r = cc in ap (λ (f : Linear). all_apart f.products) (sym same) ∙ h
apart_gathered at body (row ∷ rows) sum r h e =
    ok_then (body row) _ r e (λ u i k. ok_then (gathered at sum u) _ r k (λ g j m. apart_gathered at body rows g r (one u g j) m))
  where
    one : (u : Term) (g : Linear) → gathered at sum u ≡ Ok g → all_apart g.products ≡ true
    one None g j = cc
    one (Some f) g j = let same : combined sum (pos 1) f ≡ g = cc in ap (λ (z : Linear). all_apart z.products) (sym same) ∙ apart_with sum.products (pos 1) f.products h

apart_total : (at : Span) (body : Row → Outcome Term) (rows : List Row) → Comes (total at body rows)
apart_total at body rows = comes_then (gathered_over at body rows (just (pos 0))) (sized at) (λ f e. apart_sized at f (apart_gathered at body rows (just (pos 0)) f refl e))

apart_mixed : (w : World) (s : Scope) (t : Tree) (b : Bool) (u : Outcome Term) → Comes u → Comes (mixed w s t b u)
apart_mixed w s t true u h = h
apart_mixed w s t false u h = comes_then (number_or_none w s t) (plain_term (span_of t)) (λ o e. go o)
  where
    go : (o : Option ℤ) → Comes (plain_term (span_of t) o)
    go None = tt
    go (Some n) = apart_sized (span_of t) (just n) refl

apart_linear : (at : Span) (b : Bool) (u : Outcome Term) → Comes u → Comes (linear at b u)
apart_linear at true u h = h
apart_linear at false u h = tt

apart_arc : (a : Arcs) (at : Span) (n : Name) (key : Outcome Tuple) → Comes (arc_term a at n key)
apart_arc a at n key = comes_then (and_then key (arc_at at n (declared a n))) (λ v. Ok (Some (one_arc v))) (λ v e. refl)

mutual
  apart : (a : Arcs) (w : World) (s : Scope) (t : Tree) → Comes (objective a w s t)
  apart a w s (leaf t) = apart_mixed w s (leaf t) (is_arc a t.text) _ (apart_arc a (span_of (leaf t)) t.text (Ok []))
  apart a w s (indexed n o x l c) =
      apart_mixed w s (indexed n o x l c) (names_arc a (indexed n o x l c)) _
      (apart_linear (span_of (indexed n o x l c)) (not (names_arc a x || any_arc a l)) _ (apart_arc a (span_of (indexed n o x l c)) n.text (key_of w s (span_of (indexed n o x l c)) x l)))
  apart a w s (parens o x c) = apart_mixed w s (parens o x c) (names_arc a x) _ (apart a w s x)
  apart a w s (tuple o x l c) = apart_mixed w s (tuple o x l c) (names_arc a (tuple o x l c)) _ tt
  apart a w s (negated n o x c) = apart_mixed w s (negated n o x c) (names_arc a x) _ tt
  apart a w s (braced b) = apart_mixed w s (braced b) (braces_arc a b) _ tt
  apart a w s (signed t x) =
      apart_mixed w s (signed t x) (names_arc a x) _ (comes_then (objective a w s x) (turn (is_minus t) (span_of (signed t x))) (λ u e. apart_turn (is_minus t) (span_of (signed t x)) u (comes_as (objective a w s x) u (apart a w s x) e)))
  apart a w s (reduced r b x) =
      apart_mixed w s (reduced r b x) (names_arc a (reduced r b x)) _
      (apart_linear (span_of (reduced r b x)) (is_sum (reduction r) && not (braces_arc a b)) _
      (comes_then (index w s b) (λ k. total (span_of (reduced r b x)) (λ row. objective a w row.scope x) k.rows) (λ k e. apart_total (span_of (reduced r b x)) (λ row. objective a w row.scope x) k.rows)))
  apart a w s (chain n x l) =
      apart_mixed w s (chain n x l) (names_arc a (chain n x l)) _
      (apart_linear (span_of (chain n x l)) (is_linear a x l) _
      (comes_then (objective a w s x) (chained a (span_of (chain n x l)) w s l) (λ u e. apart_chain a (span_of (chain n x l)) w s l u (comes_as (objective a w s x) u (apart a w s x) e))))
  apart a w s (choice i x t y e) =
      apart_mixed w s (choice i x t y e) (names_arc a (choice i x t y e)) _
      (apart_linear (span_of (choice i x t y e)) (not (names_arc a x)) _
      (comes_then (condition w s (span_of (choice i x t y e)) x) (λ holds. if holds then objective a w s y else otherwise a w s e) (λ b h. comes_if b _ _ (apart a w s y) (apart_else a w s e))))
  apart a w s (net t u) = apart_mixed w s (net t u) false (rejected NotLinear (span_of (net t u))) tt

  apart_else : (a : Arcs) (w : World) (s : Scope) (p : Part) → Comes (otherwise a w s p)
  apart_else a w s absent = refl
  apart_else a w s (part m x) = apart a w s x

  apart_chain : (a : Arcs) (at : Span) (w : World) (s : Scope) (l : Links) (u : Term) → IsApart u → Comes (chained a at w s l u)
  apart_chain a at w s none u h = h
  apart_chain a at w s (link o x l) u h =
      comes_then (objective a w s x) _ (λ v e. comes_then (join (operation o) at u v) (chained a at w s l) (λ z i. apart_chain a at w s l z (comes_as (join (operation o) at u v) z (apart_join (operation o) at u v h) i)))

form_apart : (at : Span) (u : Term) (f : Linear) → IsApart u → as_form at u ≡ Ok f → all_apart f.products ≡ true
form_apart at None f h e = cc
form_apart at (Some g) f h e = let same : g ≡ f = cc in ap (λ (z : Linear). all_apart z.products) (sym same) ∙ h

pub objective_apart : (a : Arcs) (w : World) (s : Scope) (t : Tree) (f : Linear) → objective_form a w s t ≡ Ok f → all_apart f.products ≡ true
objective_apart a w s t f e = ok_then (objective a w s t) (as_form (span_of t)) f e (λ u i k. form_apart (span_of t) u f (comes_as (objective a w s t) u (apart a w s t) i) k)

-- with a price more
pub price_apart : (at : Span) (f : Linear) (arc : ℕ) (price : ℤ) (r : Linear) → all_apart f.products ≡ true → priced at f arc price ≡ Ok r → all_apart r.products ≡ true
price_apart at f arc price r h e = go (is_small price) (is_sized (combined f price (one_arc arc))) e
  where
    go : (b c : Bool) → (if b then or_too_large at (if c then Some (combined f price (one_arc arc)) else None) else rejected ValueTooLarge at) ≡ Ok r → all_apart r.products ≡ true
    go true true e =
        let same : combined f price (one_arc arc) ≡ r = cc in
        ap (λ (z : Linear). all_apart z.products) (sym same) ∙ apart_with f.products price (one_arc arc).products h
    go true false e = cc
    go false c e = cc
