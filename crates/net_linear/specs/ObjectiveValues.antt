-- The value of an objective's expression at an assignment, with each arc replaced by its value.
-- Sizes are not checked.
use Rattle.std.specs.Prelude.{ℕ, Bool, true, false, ◌&&◌, ◌||◌, List, [], ◌∷◌, Option, None, Some, if◌then◌else◌, Result, Ok, Err, ℤ, pos, ◌+ℤ◌, ◌-ℤ◌, ◌*ℤ◌, neg_ℤ, int_div, int_rem}
use Rattle.net_base.specs.declared.diagnostic.Span.{Span}
use Rattle.net_tree.specs.Spans.{span_of}
use Rattle.net_tree.specs.Tree.{Tree, Links, Part, Braces, leaf, indexed, parens, tuple, negated, braced, signed, reduced, chain, choice, net, none, link, absent, part}
use Rattle.net_expr.specs.declared.row.Keys.{Keys}
use Rattle.net_expr.specs.declared.row.Row.{Row}
use Rattle.net_expr.specs.Numbers.{turned}
use Rattle.net_tree.specs.Operations.{is_minus, operation}
use Rattle.net_expr.specs.Values.{index}
use Rattle.net_expr.specs.Worlds.{Name, World, Scope}
use Rattle.net_sets.specs.Sets.{Tuple}
use Rattle.net_tree.specs.declared.operator.BinOp.{BinOp}
use Rattle.net_tree.specs.declared.operator.BinOp.TheVariants.{Plus, Minus, Times, Div, Mod}
use Rattle.net_linear.specs.Arcs.{Arcs, declared, is_arc, arc_at}
use Rattle.net_linear.specs.Conditions.{number_of}
use Rattle.net_linear.specs.Objectives.{names_arc, any_arc, braces_arc, key_of, condition}
use Rattle.net_base.specs.Outcomes.{Outcome, and_then}
use Rattle.net_linear.specs.Amounts.{number_or_none}

-- the value of a tree without arcs is that of the evaluator
abbrev pub read : World → Scope → Tree → Bool → ℤ → ℤ
read w s t true n = n
read w s t false n = number_of (number_or_none w s t)

abbrev pub number_at : (ℕ → ℤ) → Outcome ℕ → ℤ
number_at x (Ok a) = x a
number_at x (Err r) = pos 0

abbrev pub value_of_arc : Arcs → Span → Name → Outcome Tuple → (ℕ → ℤ) → ℤ
value_of_arc a at name key x = number_at x (and_then key (arc_at at name (declared a name)))

abbrev pub combine : BinOp → ℤ → ℤ → ℤ
combine Plus m n = m +ℤ n
combine Minus m n = m -ℤ n
combine Times m n = m *ℤ n
combine Div m n = int_div m n
combine Mod m n = int_rem m n
combine _ m n = pos 0

abbrev pub sum_over : (Scope → ℤ) → List Row → ℤ
sum_over f [] = pos 0
sum_over f (row ∷ rows) = f row.scope +ℤ sum_over f rows

abbrev pub sum_in : (Scope → ℤ) → Outcome Keys → ℤ
sum_in f (Ok k) = sum_over f k.rows
sum_in f (Err r) = pos 0

abbrev pub choose : Outcome Bool → ℤ → ℤ → ℤ
choose (Ok true) m n = m
choose (Ok false) m n = n
choose (Err r) m n = pos 0

abbrev mutual
  pub value_of_tree : Arcs → World → Scope → Tree → (ℕ → ℤ) → ℤ
  value_of_tree a w s (leaf t) x = read w s (leaf t) (is_arc a t.text) (value_of_arc a (span_of (leaf t)) t.text (Ok []) x)
  value_of_tree a w s (indexed n o y l c) x =
      read w s (indexed n o y l c) (names_arc a (indexed n o y l c)) (value_of_arc a (span_of (indexed n o y l c)) n.text (key_of w s (span_of (indexed n o y l c)) y l) x)
  value_of_tree a w s (parens o y c) x = read w s (parens o y c) (names_arc a y) (value_of_tree a w s y x)
  value_of_tree a w s (tuple o y l c) x = number_of (number_or_none w s (tuple o y l c))
  value_of_tree a w s (negated n o y c) x = number_of (number_or_none w s (negated n o y c))
  value_of_tree a w s (braced b) x = number_of (number_or_none w s (braced b))
  value_of_tree a w s (signed t y) x = read w s (signed t y) (names_arc a y) (turned (is_minus t) (value_of_tree a w s y x))
  value_of_tree a w s (reduced r b y) x = read w s (reduced r b y) (names_arc a (reduced r b y)) (sum_in (λ q. value_of_tree a w q y x) (index w s b))
  value_of_tree a w s (chain n y l) x = read w s (chain n y l) (names_arc a (chain n y l)) (value_of_chain a w s l (value_of_tree a w s y x) x)
  value_of_tree a w s (choice i y t z e) x =
      read w s (choice i y t z e) (names_arc a (choice i y t z e)) (choose (condition w s (span_of (choice i y t z e)) y) (value_of_tree a w s z x) (value_of_else a w s e x))
  value_of_tree a w s (net t u) x = number_of (number_or_none w s (net t u))

  pub value_of_else : Arcs → World → Scope → Part → (ℕ → ℤ) → ℤ
  value_of_else a w s absent x = pos 0
  value_of_else a w s (part m y) x = value_of_tree a w s y x

  -- applies the operators of a chain from left to right
  pub value_of_chain : Arcs → World → Scope → Links → ℤ → (ℕ → ℤ) → ℤ
  value_of_chain a w s none n x = n
  value_of_chain a w s (link o y l) n x = value_of_chain a w s l (combine (operation o) n (value_of_tree a w s y x)) x
