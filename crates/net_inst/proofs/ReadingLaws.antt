-- What an objective's form comes to is the reading of its expression.
use Rattle.std.specs.Prelude.{◌≡◌, ℕ, Bool, false, not, ◌&&◌, ◌||◌, [], None, Some, Ok, Err, ℤ, pos}
use Rattle.std.proofs.Common.{refl, ap, sym, ◌∙◌}
use Rattle.net_base.specs.declared.diagnostic.Span.{Span}
use Rattle.net_sets.specs.Sets.{Tuple}
use Rattle.net_tree.specs.Spans.{span_of}
use Rattle.net_tree.specs.Tree.{Tree, Links, Part, Braces, leaf, indexed, parens, tuple, negated, braced, signed, reduced, chain, choice, net, none, link, absent, part, empty, filled}
use Rattle.net_expr.specs.Numbers.{turned}
use Rattle.net_tree.specs.Operations.{reduction, is_minus, operation}
use Rattle.net_expr.specs.Values.{index}
use Rattle.net_expr.specs.Worlds.{Name, World, Scope}
use Rattle.net_linear.specs.Arcs.{Arcs, declared, is_arc, arc_at}
use Rattle.net_linear.specs.Forms.{Linear, Term, just, one_arc, join, turn, as_form, form_at}
use Rattle.net_linear.specs.Objectives.{names_arc, any_arc, part_arc, braces_arc, is_sum, is_linear, key_of, condition, arc_term, objective, otherwise, chained, objective_form}
use Rattle.net_base.specs.Outcomes.{Outcome}
use Rattle.net_linear.specs.ObjectiveValues.{combine}
use Rattle.net_linear.proofs.FormLaws.{term_at, same_term, form_just, form_arc, join_ok, turn_ok, total_ok, mixed_ok, no_arcs, linear_ok, choose_ok}
use Rattle.net_linear.proofs.Ranges.{ok_then}
use Rattle.net_inst.specs.AsWritten.{Assignment}
use Rattle.net_inst.specs.Readings.{number_at_key, reading, reading_else, reading_chain}
use Rattle.net_inst.proofs.Labels.{NameAlike}

-- the number of each arc that a name has at a key is that of the name at the key
pub record ReadAlike (a : Arcs) (x : ℕ → ℤ) (y : Assignment) : Type 0 where
  pub alike : (at : Span) (n : Name) (key : Tuple) (v : ℕ) → arc_at at n (declared a n) key ≡ Ok v → x v ≡ y n key

key_ok : (a : Arcs) (x : ℕ → ℤ) (y : Assignment) → ReadAlike a x y → (at : Span) (n : Name) (key : Outcome Tuple) (r : Term) → arc_term a at n key ≡ Ok r → term_at x r ≡ number_at_key y n key
key_ok a x y h at n (Err f) r e = cc
key_ok a x y h at n (Ok key) r e =
    ok_then (arc_at at n (declared a n) key) (λ v. Ok (Some (one_arc v))) r e (λ v i j. same_term (one_arc v) r x j ∙ form_arc x v ∙ h.alike at n key v i)

module _ (x : ℕ → ℤ) (y : Assignment) (a : Arcs) (h : ReadAlike a x y) where
  mutual
    law : (w : World) (s : Scope) (t : Tree) (r : Term) → objective a w s t ≡ Ok r → term_at x r ≡ reading (names_arc a) w s t y
    law w s (leaf t) r e = mixed_ok x w s (leaf t) (is_arc a t.text) _ r _ e (λ k. key_ok a x y h (span_of (leaf t)) t.text (Ok []) r k)
    law w s (indexed n o z l c) r e =
        mixed_ok x w s (indexed n o z l c) (names_arc a (indexed n o z l c)) _ r _ e
        (λ k. key_ok a x y h (span_of (indexed n o z l c)) n.text (key_of w s (span_of (indexed n o z l c)) z l) r (linear_ok (span_of (indexed n o z l c)) (not (names_arc a z || any_arc a l)) _ r k))
    law w s (parens o z c) r e = mixed_ok x w s (parens o z c) (names_arc a z) (objective a w s z) r _ e (λ k. law w s z r k)
    law w s (tuple o z l c) r e = no_arcs x w s (tuple o z l c) (names_arc a (tuple o z l c)) (span_of (tuple o z l c)) r e
    law w s (negated n o z c) r e = no_arcs x w s (negated n o z c) (names_arc a z) (span_of (negated n o z c)) r e
    law w s (braced b) r e = no_arcs x w s (braced b) (braces_arc a b) (span_of (braced b)) r e
    law w s (signed t z) r e =
        mixed_ok x w s (signed t z) (names_arc a z) _ r _ e
        (λ k. ok_then (objective a w s z) (turn (is_minus t) (span_of (signed t z))) r k (λ u i j. turn_ok x (is_minus t) (span_of (signed t z)) u r j ∙ ap (turned (is_minus t)) (law w s z u i)))
    law w s (reduced m b z) r e =
        mixed_ok x w s (reduced m b z) (names_arc a (reduced m b z)) _ r _ e
        (λ k. total_ok x (span_of (reduced m b z)) (λ row. objective a w row.scope z) (λ q. reading (names_arc a) w q z y) (λ row u i. law w row.scope z u i) (index w s b) r
        (linear_ok (span_of (reduced m b z)) (is_sum (reduction m) && not (braces_arc a b)) _ r k))
    law w s (chain n z l) r e =
        mixed_ok x w s (chain n z l) (names_arc a (chain n z l)) _ r _ e
        (λ k. ok_then (objective a w s z) (chained a (span_of (chain n z l)) w s l) r (linear_ok (span_of (chain n z l)) (is_linear a z l) _ r k)
        (λ u i j. law_chain (span_of (chain n z l)) w s l u r j ∙ ap (λ (m : ℤ). reading_chain (names_arc a) w s l m y) (law w s z u i)))
    law w s (choice i z t q p) r e =
        mixed_ok x w s (choice i z t q p) (names_arc a (choice i z t q p)) _ r _ e
        (λ k. choose_ok x (condition w s (span_of (choice i z t q p)) z) (objective a w s q) (otherwise a w s p) r _ _
        (linear_ok (span_of (choice i z t q p)) (not (names_arc a z)) _ r k) (λ m. law w s q r m) (λ m. law_else w s p r m))
    law w s (net t u) r e = no_arcs x w s (net t u) false (span_of (net t u)) r e

    law_else : (w : World) (s : Scope) (p : Part) (r : Term) → otherwise a w s p ≡ Ok r → term_at x r ≡ reading_else (names_arc a) w s p y
    law_else w s absent r e = same_term (just (pos 0)) r x e ∙ form_just x (pos 0)
    law_else w s (part m z) r e = law w s z r e

    law_chain : (at : Span) (w : World) (s : Scope) (l : Links) (u r : Term) → chained a at w s l u ≡ Ok r → term_at x r ≡ reading_chain (names_arc a) w s l (term_at x u) y
    law_chain at w s none u r e = let same : u ≡ r = cc in ap (term_at x) (sym same)
    law_chain at w s (link o z l) u r e =
        ok_then (objective a w s z) _ r e (λ v i k. ok_then (join (operation o) at u v) (chained a at w s l) r k
        (λ q j m. law_chain at w s l q r m ∙ ap (λ (b : ℤ). reading_chain (names_arc a) w s l b y) (join_ok x (operation o) at u v q j ∙ ap (combine (operation o) (term_at x u)) (law w s z v i))))

  form_of : (at : Span) (u : Term) (f : Linear) → as_form at u ≡ Ok f → form_at x f ≡ term_at x u
  form_of at None f e = cc
  form_of at (Some g) f e = let same : g ≡ f = cc in ap (form_at x) (sym same)

  pub form_reads : (w : World) (s : Scope) (t : Tree) (f : Linear) → objective_form a w s t ≡ Ok f → form_at x f ≡ reading (names_arc a) w s t y
  form_reads w s t f e = ok_then (objective a w s t) (as_form (span_of t)) f e (λ u i k. form_of (span_of t) u f k ∙ law w s t u i)

either : (p q r s : Bool) → p ≡ q → r ≡ s → (p || r) ≡ (q || s)
either p q r s e f = ap (λ (t : Bool). t || r) e ∙ ap (λ (t : Bool). q || t) f

-- where the same names stand for arcs, arcs stand in the same trees
mutual
  names_same : (a b : Arcs) → NameAlike a b → (t : Tree) → names_arc a t ≡ names_arc b t
  names_same a b h (leaf t) = h.alike t.text
  names_same a b h (indexed n o x l c) = either (is_arc a n.text) (is_arc b n.text) _ _ (h.alike n.text) (either (names_arc a x) (names_arc b x) _ _ (names_same a b h x) (any_same a b h l))
  names_same a b h (parens o x c) = names_same a b h x
  names_same a b h (tuple o x l c) = either (names_arc a x) (names_arc b x) _ _ (names_same a b h x) (any_same a b h l)
  names_same a b h (negated n o x c) = names_same a b h x
  names_same a b h (braced q) = braces_same a b h q
  names_same a b h (signed t x) = names_same a b h x
  names_same a b h (reduced r q x) = either (braces_arc a q) (braces_arc b q) _ _ (braces_same a b h q) (names_same a b h x)
  names_same a b h (chain n x l) = either (names_arc a x) (names_arc b x) _ _ (names_same a b h x) (any_same a b h l)
  names_same a b h (choice i x t y e) =
      either (names_arc a x || names_arc a y) (names_arc b x || names_arc b y) _ _ (either (names_arc a x) (names_arc b x) _ _ (names_same a b h x) (names_same a b h y)) (part_same a b h e)
  names_same a b h (net t u) = refl

  any_same : (a b : Arcs) → NameAlike a b → (l : Links) → any_arc a l ≡ any_arc b l
  any_same a b h none = refl
  any_same a b h (link o x l) = either (names_arc a x) (names_arc b x) _ _ (names_same a b h x) (any_same a b h l)

  part_same : (a b : Arcs) → NameAlike a b → (p : Part) → part_arc a p ≡ part_arc b p
  part_same a b h absent = refl
  part_same a b h (part m x) = names_same a b h x

  braces_same : (a b : Arcs) → NameAlike a b → (q : Braces) → braces_arc a q ≡ braces_arc b q
  braces_same a b h (empty o p c) = part_same a b h p
  braces_same a b h (filled o x l p c) =
      either (names_arc a x || any_arc a l) (names_arc b x || any_arc b l) _ _ (either (names_arc a x) (names_arc b x) _ _ (names_same a b h x) (any_same a b h l)) (part_same a b h p)

pub names_all_same : (a b : Arcs) → NameAlike a b → names_arc a ≡ names_arc b
names_all_same a b h = λ i t. names_same a b h t i
