-- What a node's condition is refused for stands at one of its expressions, or at the whole of them.
use Rattle.std.specs.Prelude.{◌&&◌, Option, None, Some, ℤ}
use Rattle.net_base.specs.declared.diagnostic.Span.{Span}
use Rattle.net_lex.specs.declared.token.Token.{Token}
use Rattle.net_tree.specs.Role.{role_of}
use Rattle.net_tree.specs.Tree.{Tree, Condition, unsaid, one, between}
use Rattle.net_expr.specs.Limits.{is_small}
use Rattle.net_expr.specs.Values.{value}
use Rattle.net_expr.specs.Worlds.{World, Scope}
use Rattle.net_linear.specs.declared.condition.Comparison.{Comparison}
use Rattle.net_linear.specs.declared.condition.Sides.{Sides}
use Rattle.net_linear.specs.declared.net_term.NetTerm.{NetTerm}
use Rattle.net_linear.specs.declared.net_term.NetTerm.TheVariants.{Absent, Inflow, Outflow, Unclear}
use Rattle.net_linear.specs.Amounts.{number_or_none}
use Rattle.net_linear.specs.Conditions.{comparison_in, solved, solved_sides, met_ends, met, from_to, one_in, between_in, sides_in, range_in}
use Rattle.net_linear.specs.NetTerms.{net_side}
use Rattle.net_base.specs.Places.{Places, Finds, Model}
use Rattle.net_tree.specs.Standing.{Stands, ConditionHasSpans}
use Rattle.net_base.proofs.Found.{finds_then, finds_if}
use Rattle.net_expr.proofs.ValueFaults.{finds_value}

module _ (P : Places) (at : Span) (h : P Model at) where
  finds_solved : (c : Option Comparison) (m n : NetTerm) (a b : ℤ) → Finds P (solved at c m n a b)
  finds_solved None m n a b = h
  finds_solved (Some c) Absent Absent a b = h
  finds_solved (Some c) Absent Inflow a b = tt
  finds_solved (Some c) Absent Outflow a b = tt
  finds_solved (Some c) Absent Unclear a b = h
  finds_solved (Some c) Inflow Absent a b = tt
  finds_solved (Some c) Inflow Inflow a b = h
  finds_solved (Some c) Inflow Outflow a b = h
  finds_solved (Some c) Inflow Unclear a b = h
  finds_solved (Some c) Outflow Absent a b = tt
  finds_solved (Some c) Outflow Inflow a b = h
  finds_solved (Some c) Outflow Outflow a b = h
  finds_solved (Some c) Outflow Unclear a b = h
  finds_solved (Some c) Unclear n a b = h

  finds_solved_sides : (c : Option Comparison) (m n : NetTerm) (a b : Option ℤ) → Finds P (solved_sides at c m n a b)
  finds_solved_sides c m n None b = h
  finds_solved_sides c m n (Some a) None = h
  finds_solved_sides c m n (Some a) (Some b) = finds_if P (is_small a && is_small b) _ _ (finds_solved c m n a b) h

  finds_met_ends : (l g k e : Option ℤ) → Finds P (met_ends at l g k e)
  finds_met_ends None None k e = h
  finds_met_ends None (Some g) None e = h
  finds_met_ends None (Some g) (Some k) None = tt
  finds_met_ends None (Some g) (Some k) (Some e) = h
  finds_met_ends (Some l) (Some g) k e = h
  finds_met_ends (Some l) None (Some k) e = h
  finds_met_ends (Some l) None None None = h
  finds_met_ends (Some l) None None (Some e) = tt

  finds_met : (r q : Sides) → Finds P (met at r q)
  finds_met r q = finds_met_ends r.low r.high q.low q.high

module _ (P : Places) (w : World) (s : Scope) where
  pub finds_number_or_none : (t : Tree) → Stands (P Model) t → Finds P (number_or_none w s t)
  finds_number_or_none t h = finds_then P (value w s t) _ (finds_value P w s t h) (λ v. tt)

  finds_one_in : (x : Tree) (o : Token) (z : Tree) → P Model (from_to x z) → Stands (P Model) x → Stands (P Model) z → Finds P (one_in w s x o z)
  finds_one_in x o z h j k =
      finds_then P (number_or_none w s x) _ (finds_number_or_none x j) (λ a. finds_then P (number_or_none w s z) _ (finds_number_or_none z k) (λ b.
      finds_solved_sides P (from_to x z) h (comparison_in (role_of o)) (net_side x) (net_side z) a b))

  finds_between_in : (x : Tree) (o : Token) (z : Tree) (p : Token) (u : Tree) → P Model (from_to x u) → Stands (P Model) x → Stands (P Model) z → Stands (P Model) u
      → Finds P (between_in w s x o z p u)
  finds_between_in x o z p u h i j k =
      finds_then P (number_or_none w s x) _ (finds_number_or_none x i) (λ a. finds_then P (number_or_none w s z) _ (finds_number_or_none z j) (λ b.
      finds_then P (number_or_none w s u) _ (finds_number_or_none u k) (λ e.
      finds_then P (solved_sides (from_to x u) (comparison_in (role_of o)) (net_side x) (net_side z) a b) _ (finds_solved_sides P (from_to x u) h (comparison_in (role_of o)) (net_side x) (net_side z) a b) (λ r.
      finds_then P (solved_sides (from_to x u) (comparison_in (role_of p)) (net_side z) (net_side u) b e) (met (from_to x u) r) (finds_solved_sides P (from_to x u) h (comparison_in (role_of p)) (net_side z) (net_side u) b e) (finds_met P (from_to x u) h r)))))

  finds_sides_in : (c : Condition) → ConditionHasSpans (P Model) c → Finds P (sides_in w s c)
  finds_sides_in unsaid h = tt
  finds_sides_in (one m x o z) (h, j, k) = finds_one_in x o z h j k
  finds_sides_in (between m x o z p u) (h, i, j, k) = finds_between_in x o z p u h i j k

  pub finds_range_in : (c : Condition) → ConditionHasSpans (P Model) c → Finds P (range_in w s c)
  finds_range_in c h = finds_then P (sides_in w s c) _ (finds_sides_in c h) (λ r. tt)
