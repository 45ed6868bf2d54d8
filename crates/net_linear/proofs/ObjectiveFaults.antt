-- What an objective's expression is refused for stands at one of its parts.
use Rattle.std.specs.Prelude.{Bool, true, false, not, ◌&&◌, [], ◌∷◌, Option, None, Some, if◌then◌else◌, Ok, ℤ}
use Rattle.net_base.specs.declared.diagnostic.Span.{Span}
use Rattle.net_base.specs.Outcomes.{Outcome, and_then}
use Rattle.net_sets.specs.Sets.{Tuple}
use Rattle.net_tree.specs.Spans.{span_of}
use Rattle.net_tree.specs.Tree.{Tree, Links, Part, leaf, indexed, parens, tuple, negated, braced, signed, reduced, chain, choice, net, none, link, absent, part}
use Rattle.net_tree.specs.Operations.{reduction, is_minus, operation}
use Rattle.net_expr.specs.Operators.{truth, tuple_of}
use Rattle.net_expr.specs.Values.{value, values, index}
use Rattle.net_expr.specs.Worlds.{Name, World, Scope}
use Rattle.net_linear.specs.Amounts.{number_or_none}
use Rattle.net_linear.specs.Arcs.{Arcs, declared, arc_at}
use Rattle.net_linear.specs.Forms.{Term, just, join, turn, total, as_form}
use Rattle.net_linear.specs.Objectives.{names_arc, braces_arc, first_or_any, is_linear, is_sum, plain_term, mixed, linear, key_of, arc_term, condition, objective, otherwise, chained}
use Rattle.net_linear.specs.Objectives.{with_arcs, objective_form}
use Rattle.net_base.specs.Places.{Places, Finds, Model}
use Rattle.net_tree.specs.Standing.{Stands, LinksStand, PartStands}
use Rattle.net_base.proofs.Found.{finds_then, finds_if}
use Rattle.net_expr.proofs.OperatorFaults.{finds_truth, finds_tuple_of}
use Rattle.net_expr.proofs.ValueFaults.{whole_stands, finds_value, finds_values, finds_index}
use Rattle.net_linear.proofs.FormFaults.{finds_sized, finds_join, finds_turn, finds_total, finds_as_form, finds_arc_at}
use Rattle.net_linear.proofs.ConditionFaults.{finds_number_or_none}

module _ (P : Places) (at : Span) (h : P Model at) where
  finds_plain_term : (n : Option ℤ) → Finds P (plain_term at n)
  finds_plain_term None = tt
  finds_plain_term (Some n) = finds_sized P at h (just n)

  finds_linear : (b : Bool) (u : Outcome Term) → Finds P u → Finds P (linear at b u)
  finds_linear true u k = k
  finds_linear false u k = h

  pub finds_key_of : (w : World) (s : Scope) (x : Tree) (l : Links) → Stands (P Model) x → LinksStand (P Model) l → Finds P (key_of w s at x l)
  finds_key_of w s x l j k =
      finds_then P (and_then (value w s x) (λ v. values w s l (v ∷ []))) (tuple_of at)
      (finds_then P (value w s x) _ (finds_value P w s x j) (λ v. finds_values P w s l k (v ∷ []))) (finds_tuple_of P at h)

  finds_arc_term : (a : Arcs) (name : Name) (key : Outcome Tuple) → Finds P key → Finds P (arc_term a at name key)
  finds_arc_term a name key k =
      finds_then P (and_then key (arc_at at name (declared a name))) _ (finds_then P key (arc_at at name (declared a name)) k (finds_arc_at P at h name (declared a name))) (λ n. tt)

  finds_condition : (w : World) (s : Scope) (x : Tree) → Stands (P Model) x → Finds P (condition w s at x)
  finds_condition w s x k = finds_then P (value w s x) (truth at) (finds_value P w s x k) (finds_truth P at h)

module _ (P : Places) where
  finds_mixed : (w : World) (s : Scope) (t : Tree) → Stands (P Model) t → (b : Bool) (u : Outcome Term) → Finds P u → Finds P (mixed w s t b u)
  finds_mixed w s t h true u k = k
  finds_mixed w s t h false u k =
      finds_then P (number_or_none w s t) (plain_term (span_of t)) (finds_number_or_none P w s t h) (finds_plain_term P (span_of t) (whole_stands (P Model) t h))

  -- a tree comes to its value, or to what it comes to with arcs
  finds_mixed_with : (a : Arcs) (w : World) (s : Scope) (t : Tree) → Stands (P Model) t → Finds P (with_arcs a w s t) → Finds P (objective a w s t)
  finds_mixed_with a w s (leaf t) h k = finds_mixed w s (leaf t) h (names_arc a (leaf t)) (with_arcs a w s (leaf t)) k
  finds_mixed_with a w s (indexed n o x l c) h k = finds_mixed w s (indexed n o x l c) h (names_arc a (indexed n o x l c)) (with_arcs a w s (indexed n o x l c)) k
  finds_mixed_with a w s (parens o x c) h k = finds_mixed w s (parens o x c) h (names_arc a (parens o x c)) (with_arcs a w s (parens o x c)) k
  finds_mixed_with a w s (tuple o x l c) h k = finds_mixed w s (tuple o x l c) h (names_arc a (tuple o x l c)) (with_arcs a w s (tuple o x l c)) k
  finds_mixed_with a w s (negated n o x c) h k = finds_mixed w s (negated n o x c) h (names_arc a (negated n o x c)) (with_arcs a w s (negated n o x c)) k
  finds_mixed_with a w s (braced b) h k = finds_mixed w s (braced b) h (names_arc a (braced b)) (with_arcs a w s (braced b)) k
  finds_mixed_with a w s (signed t x) h k = finds_mixed w s (signed t x) h (names_arc a (signed t x)) (with_arcs a w s (signed t x)) k
  finds_mixed_with a w s (reduced r b x) h k = finds_mixed w s (reduced r b x) h (names_arc a (reduced r b x)) (with_arcs a w s (reduced r b x)) k
  finds_mixed_with a w s (chain n x l) h k = finds_mixed w s (chain n x l) h (names_arc a (chain n x l)) (with_arcs a w s (chain n x l)) k
  finds_mixed_with a w s (choice i x t y e) h k = finds_mixed w s (choice i x t y e) h (names_arc a (choice i x t y e)) (with_arcs a w s (choice i x t y e)) k
  finds_mixed_with a w s (net t u) h k = finds_mixed w s (net t u) h (names_arc a (net t u)) (with_arcs a w s (net t u)) k

  mutual
    finds_with_arcs : (a : Arcs) (w : World) (s : Scope) (t : Tree) → Stands (P Model) t → Finds P (with_arcs a w s t)
    finds_with_arcs a w s (leaf t) (h, k) = finds_arc_term P (span_of (leaf t)) h a t.text (Ok []) tt
    finds_with_arcs a w s (indexed n o x l c) (h, i, j, k) =
        finds_linear P (span_of (indexed n o x l c)) h (not (first_or_any a x l)) (arc_term a (span_of (indexed n o x l c)) n.text (key_of w s (span_of (indexed n o x l c)) x l))
        (finds_arc_term P (span_of (indexed n o x l c)) h a n.text (key_of w s (span_of (indexed n o x l c)) x l) (finds_key_of P (span_of (indexed n o x l c)) h w s x l j k))
    finds_with_arcs a w s (parens o x c) (h, k) = finds_mixed_with a w s x k (finds_with_arcs a w s x k)
    finds_with_arcs a w s (tuple o x l c) h = h.0
    finds_with_arcs a w s (negated n o x c) h = h.0
    finds_with_arcs a w s (braced b) h = h.0
    finds_with_arcs a w s (signed t x) (h, k) =
        finds_then P (objective a w s x) (turn (is_minus t) (span_of (signed t x))) (finds_mixed_with a w s x k (finds_with_arcs a w s x k)) (finds_turn P (span_of (signed t x)) h (is_minus t))
    finds_with_arcs a w s (reduced r b x) (h, j, k) =
        finds_linear P (span_of (reduced r b x)) h (is_sum (reduction r) && not (braces_arc a b))
        (and_then (index w s b) (λ found. total (span_of (reduced r b x)) (λ row. objective a w row.scope x) found.rows))
        (finds_then P (index w s b) _ (finds_index P w s b j)
        (λ found. finds_total P (span_of (reduced r b x)) h (λ row. objective a w row.scope x) (λ row. finds_mixed_with a w row.scope x k (finds_with_arcs a w row.scope x k)) found.rows))
    finds_with_arcs a w s (chain n x l) (h, j, k) =
        finds_linear P (span_of (chain n x l)) h (is_linear a x l) (and_then (objective a w s x) (chained a (span_of (chain n x l)) w s l))
        (finds_then P (objective a w s x) (chained a (span_of (chain n x l)) w s l) (finds_mixed_with a w s x j (finds_with_arcs a w s x j)) (finds_chained a (span_of (chain n x l)) h w s l k))
    finds_with_arcs a w s (choice i x t y e) (h, j, k, m) =
        finds_linear P (span_of (choice i x t y e)) h (not (names_arc a x))
        (and_then (condition w s (span_of (choice i x t y e)) x) (λ holds. if holds then objective a w s y else otherwise a w s e))
        (finds_then P (condition w s (span_of (choice i x t y e)) x) _ (finds_condition P (span_of (choice i x t y e)) h w s x j)
        (λ b. finds_if P b (objective a w s y) (otherwise a w s e) (finds_mixed_with a w s y k (finds_with_arcs a w s y k)) (finds_otherwise a w s e m)))
    finds_with_arcs a w s (net t u) h = h

    finds_otherwise : (a : Arcs) (w : World) (s : Scope) (e : Part) → PartStands (P Model) e → Finds P (otherwise a w s e)
    finds_otherwise a w s absent h = tt
    finds_otherwise a w s (part m x) h = finds_mixed_with a w s x h (finds_with_arcs a w s x h)

    finds_chained : (a : Arcs) (at : Span) → P Model at → (w : World) (s : Scope) (l : Links) → LinksStand (P Model) l → (u : Term) → Finds P (chained a at w s l u)
    finds_chained a at h w s none k u = tt
    finds_chained a at h w s (link o x l) (j, k) u =
        finds_then P (objective a w s x) _ (finds_mixed_with a w s x j (finds_with_arcs a w s x j)) (λ v.
        finds_then P (join (operation o) at u v) (chained a at w s l) (finds_join P at h (operation o) u v) (finds_chained a at h w s l k))

  pub finds_objective : (a : Arcs) (w : World) (s : Scope) (t : Tree) → Stands (P Model) t → Finds P (objective a w s t)
  finds_objective a w s t h = finds_mixed_with a w s t h (finds_with_arcs a w s t h)

  pub finds_objective_form : (a : Arcs) (w : World) (s : Scope) (t : Tree) → Stands (P Model) t → Finds P (objective_form a w s t)
  finds_objective_form a w s t h =
      finds_then P (objective a w s t) (as_form (span_of t)) (finds_objective a w s t h) (finds_as_form P (span_of t) (whole_stands (P Model) t h))
