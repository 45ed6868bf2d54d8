-- The linear form of an objective's expression, and its value at an assignment.
use Rattle.std.specs.Prelude.{ℕ, Bool, true, false, not, ◌&&◌, ◌||◌, List, [], ◌∷◌, Option, None, Some, if◌then◌else◌, Ok, Err, ℤ, pos, ◌+ℤ◌, ◌-ℤ◌, ◌*ℤ◌, neg_ℤ, int_div, int_rem}
use Rattle.net_base.specs.declared.diagnostic.Span.{Span}
use Rattle.net_lex.specs.declared.token.Token.{Token}
use Rattle.net_tree.specs.Spans.{span_of}
use Rattle.net_tree.specs.Tree.{Tree, Links, Part, Braces, leaf, indexed, parens, tuple, negated, braced, signed, reduced, chain, choice, net, none, link, absent, part, empty, filled}
use Rattle.net_tree.specs.declared.operator.Reduction.{Reduction}
use Rattle.net_tree.specs.declared.operator.Reduction.TheVariants as reductions
use Rattle.net_expr.specs.declared.row.Keys.{Keys}
use Rattle.net_expr.specs.declared.row.Row.{Row}
use Rattle.net_tree.specs.Operations.{reduction, is_minus, operation}
use Rattle.net_expr.specs.Operators.{truth, tuple_of}
use Rattle.net_expr.specs.Values.{value, values, index}
use Rattle.net_expr.specs.Worlds.{Name, World, Scope}
use Rattle.net_sets.specs.Sets.{Tuple}
use Rattle.net_base.specs.declared.error_code.ErrorCode.{ErrorCode}
use Rattle.net_base.specs.declared.error_code.ErrorCode.TheVariants.{NotLinear}
use Rattle.net_tree.specs.declared.operator.BinOp.{BinOp}
use Rattle.net_tree.specs.declared.operator.BinOp.TheVariants.{Plus, Minus, Times, Div, Mod}
use Rattle.net_linear.specs.Arcs.{Arcs, declared, is_arc, arc_at}
use Rattle.net_linear.specs.Conditions.{number_of}
use Rattle.net_linear.specs.Forms.{Linear, Term, just, one_arc, sized, join, turn, total, as_form}
use Rattle.net_linear.specs.Signs.{is_sign}
use Rattle.net_base.specs.Outcomes.{Outcome, and_then, rejected}
use Rattle.net_linear.specs.Amounts.{number_or_none}

-- the tree contains an arc
abbrev mutual
  pub names_arc : Arcs → Tree → Bool
  names_arc a (leaf t) = is_arc a t.text
  names_arc a (indexed n o x l c) = is_arc a n.text || (names_arc a x || any_arc a l)
  names_arc a (parens o x c) = names_arc a x
  names_arc a (tuple o x l c) = names_arc a x || any_arc a l
  names_arc a (negated n o x c) = names_arc a x
  names_arc a (braced b) = braces_arc a b
  names_arc a (signed t x) = names_arc a x
  names_arc a (reduced r b x) = braces_arc a b || names_arc a x
  names_arc a (chain n x l) = names_arc a x || any_arc a l
  names_arc a (choice i x t y e) = (names_arc a x || names_arc a y) || part_arc a e
  names_arc a (net t u) = false

  pub any_arc : Arcs → Links → Bool
  any_arc a none = false
  any_arc a (link o x l) = names_arc a x || any_arc a l

  pub part_arc : Arcs → Part → Bool
  part_arc a absent = false
  part_arc a (part m x) = names_arc a x

  pub braces_arc : Arcs → Braces → Bool
  braces_arc a (empty o p c) = part_arc a p
  braces_arc a (filled o x l p c) = (names_arc a x || any_arc a l) || part_arc a p

abbrev pub first_or_any : Arcs → Tree → Links → Bool
first_or_any a x l = names_arc a x || any_arc a l

-- only `+` and `-`
abbrev pub are_signs : Links → Bool
are_signs none = true
are_signs (link o x l) = is_sign (operation o) && are_signs l

-- whether an operator is allowed, given whether its left and its right operand contain an arc: `*`
-- allows an arc on one side, the other arithmetic operators on neither
abbrev pub may_join : BinOp → Bool → Bool → Bool
may_join Times before here = not (before && here)
may_join Plus before here = not (before || here)
may_join Minus before here = not (before || here)
may_join Div before here = not (before || here)
may_join Mod before here = not (before || here)
may_join _ before here = false

-- at most one operand contains an arc, and each operator with an arc on one of its sides is `*`
abbrev pub one_factor : Arcs → Bool → Links → Bool
one_factor a before none = true
one_factor a before (link o x l) = may_join (operation o) before (names_arc a x) && one_factor a (before || names_arc a x) l

-- a sum, or a product with at most one operand that contains an arc
abbrev pub is_linear : Arcs → Tree → Links → Bool
is_linear a x l = are_signs l || one_factor a (names_arc a x) l

abbrev pub is_sum : Reduction → Bool
is_sum reductions.Sum = true
is_sum _ = false

-- a number without arcs
abbrev pub plain_term : Span → Option ℤ → Outcome Term
plain_term at None = Ok None
plain_term at (Some n) = sized at (just n)

-- the term of a tree: its value if it contains no arc
abbrev pub mixed : World → Scope → Tree → Bool → Outcome Term → Outcome Term
mixed w s t true u = u
mixed w s t false u = and_then (number_or_none w s t) (plain_term (span_of t))

-- the outcome u if an arc is allowed there, else NotLinear
abbrev pub linear : Span → Bool → Outcome Term → Outcome Term
linear at true u = u
linear at false u = rejected NotLinear at

-- the key of a reference to an arc; its subscripts are evaluated first
abbrev pub key_of : World → Scope → Span → Tree → Links → Outcome Tuple
key_of w s at x l = and_then (and_then (value w s x) (λ v. values w s l (v ∷ []))) (λ vs. (tuple_of at vs))

abbrev pub arc_term : Arcs → Span → Name → Outcome Tuple → Outcome Term
arc_term a at name key = and_then (and_then key (arc_at at name (declared a name))) (λ n. Ok (Some (one_arc n)))

abbrev pub condition : World → Scope → Span → Tree → Outcome Bool
condition w s at x = and_then (value w s x) (λ v. (truth at v))

abbrev pub scopes : Keys → List Row
scopes k = k.rows

abbrev mutual
  pub objective : Arcs → World → Scope → Tree → Outcome Term
  objective a w s (leaf t) = mixed w s (leaf t) (is_arc a t.text) (arc_term a (span_of (leaf t)) t.text (Ok []))
  objective a w s (indexed n o x l c) =
      mixed w s (indexed n o x l c) (names_arc a (indexed n o x l c))
      (linear (span_of (indexed n o x l c)) (not (names_arc a x || any_arc a l)) (arc_term a (span_of (indexed n o x l c)) n.text (key_of w s (span_of (indexed n o x l c)) x l)))
  objective a w s (parens o x c) = mixed w s (parens o x c) (names_arc a x) (objective a w s x)
  objective a w s (tuple o x l c) = mixed w s (tuple o x l c) (names_arc a (tuple o x l c)) (rejected NotLinear (span_of (tuple o x l c)))
  objective a w s (negated n o x c) = mixed w s (negated n o x c) (names_arc a x) (rejected NotLinear (span_of (negated n o x c)))
  objective a w s (braced b) = mixed w s (braced b) (braces_arc a b) (rejected NotLinear (span_of (braced b)))
  objective a w s (signed t x) = mixed w s (signed t x) (names_arc a x) (and_then (objective a w s x) (turn (is_minus t) (span_of (signed t x))))
  objective a w s (reduced r b x) =
      mixed w s (reduced r b x) (names_arc a (reduced r b x))
      (linear (span_of (reduced r b x)) (is_sum (reduction r) && not (braces_arc a b))
      (and_then (index w s b) (λ k. total (span_of (reduced r b x)) (λ row. objective a w row.scope x) k.rows)))
  objective a w s (chain n x l) =
      mixed w s (chain n x l) (names_arc a (chain n x l))
      (linear (span_of (chain n x l)) (is_linear a x l) (and_then (objective a w s x) (chained a (span_of (chain n x l)) w s l)))
  objective a w s (choice i x t y e) =
      mixed w s (choice i x t y e) (names_arc a (choice i x t y e))
      (linear (span_of (choice i x t y e)) (not (names_arc a x))
      (and_then (condition w s (span_of (choice i x t y e)) x) (λ holds. if holds then objective a w s y else otherwise a w s e)))
  objective a w s (net t u) = mixed w s (net t u) false (rejected NotLinear (span_of (net t u)))

  -- a missing `else` is 0
  pub otherwise : Arcs → World → Scope → Part → Outcome Term
  otherwise a w s absent = Ok (Some (just (pos 0)))
  otherwise a w s (part m x) = objective a w s x

  -- applies the operators of a chain from left to right
  pub chained : Arcs → Span → World → Scope → Links → Term → Outcome Term
  chained a at w s none u = Ok u
  chained a at w s (link o x l) u = and_then (objective a w s x) (λ v. and_then (join (operation o) at u v) (chained a at w s l))

-- the term of a tree that contains an arc
abbrev pub with_arcs : Arcs → World → Scope → Tree → Outcome Term
with_arcs a w s (leaf t) = arc_term a (span_of (leaf t)) t.text (Ok [])
with_arcs a w s (indexed n o x l c) = linear (span_of (indexed n o x l c)) (not (first_or_any a x l)) (arc_term a (span_of (indexed n o x l c)) n.text (key_of w s (span_of (indexed n o x l c)) x l))
with_arcs a w s (parens o x c) = objective a w s x
with_arcs a w s (signed t x) = and_then (objective a w s x) (turn (is_minus t) (span_of (signed t x)))
with_arcs a w s (reduced r b x) =
    linear (span_of (reduced r b x)) (is_sum (reduction r) && not (braces_arc a b))
    (and_then (index w s b) (λ k. total (span_of (reduced r b x)) (λ row. objective a w row.scope x) k.rows))
with_arcs a w s (chain n x l) = linear (span_of (chain n x l)) (is_linear a x l) (and_then (objective a w s x) (chained a (span_of (chain n x l)) w s l))
with_arcs a w s (choice i x t y e) =
    linear (span_of (choice i x t y e)) (not (names_arc a x))
    (and_then (condition w s (span_of (choice i x t y e)) x) (λ holds. if holds then objective a w s y else otherwise a w s e))
with_arcs a w s t = rejected NotLinear (span_of t)

-- the objective must be numeric
abbrev pub objective_form : Arcs → World → Scope → Tree → Outcome Linear
objective_form a w s t = and_then (objective a w s t) (as_form (span_of t))
