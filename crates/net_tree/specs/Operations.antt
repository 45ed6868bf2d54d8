-- The meaning of operators, from their text.
use Rattle.std.specs.Prelude.{ℕ, Bool, true, false, List, [], ◌∷◌, Option, None, Some, codes, if◌then◌else◌}
use Rattle.std.specs.Str.{bytes_eq}
use Rattle.net_lex.specs.declared.token.Token.{Token}
use Rattle.net_tree.specs.declared.operator.BinOp.{BinOp}
use Rattle.net_tree.specs.declared.operator.BinOp.TheVariants as op
use Rattle.net_tree.specs.declared.operator.Reduction.{Reduction}
use Rattle.net_tree.specs.declared.operator.Reduction.TheVariants as reductions
use Rattle.net_tree.specs.declared.operator.OperatorWords.{OperatorWords as Operator}
use Rattle.net_tree.specs.declared.operator.OperatorWords.TheVariants.{One, Two}

unfoldable pub operations : List (List ℕ × BinOp)
operations =
    (codes "+", op.Plus) ∷ (codes "-", op.Minus) ∷ (codes "*", op.Times) ∷ (codes "=", op.Equal) ∷ (codes "in", op.In) ∷ (codes ">", op.Greater)
    ∷ (codes "<", op.Less) ∷ (codes ">=", op.AtLeast) ∷ (codes "<=", op.AtMost) ∷ (codes "<>", op.Unequal) ∷ (codes "and", op.And)
    ∷ (codes "or", op.Or) ∷ (codes "..", op.Range) ∷ (codes "div", op.Div) ∷ (codes "mod", op.Mod) ∷ (codes "==", op.Equal)
    ∷ (codes "!=", op.Unequal) ∷ (codes "cross", op.Cross) ∷ (codes "union", op.Union) ∷ (codes "inter", op.Inter) ∷ (codes "diff", op.Diff)
    ∷ (codes "symdiff", op.Symdiff) ∷ (codes "within", op.Within) ∷ []

abbrev pub operation_in : List (List ℕ × BinOp) → List ℕ → BinOp
operation_in [] text = op.Other
operation_in (o ∷ os) text = if bytes_eq o.0 text then o.1 else operation_in os text

-- the operator negated by `not`
abbrev pub denied : BinOp → BinOp
denied op.In = op.NotIn
denied op.Within = op.NotWithin
denied _ = op.Other

unfoldable pub operation : Operator → BinOp
operation (One t) = operation_in operations t.text
operation (Two t u) = denied (operation_in operations u.text)

abbrev pub is_range : BinOp → Bool
is_range op.Range = true
is_range _ = false

-- `sum`, `min`, `max`
unfoldable pub reduction : Token → Reduction
reduction t =
    if bytes_eq (codes "min") t.text then reductions.Min
    else if bytes_eq (codes "max") t.text then reductions.Max
    else reductions.Sum

unfoldable pub is_minus : Token → Bool
is_minus t = bytes_eq (codes "-") t.text

-- a `-` precedes the term
abbrev pub has_minus : Option Token → Bool
has_minus None = false
has_minus (Some t) = is_minus t

-- the term is `net_out`, which is the negation of `net_in`
unfoldable pub is_outflow : Token → Bool
is_outflow t = bytes_eq (codes "net_out") t.text

-- the keyword of an objective that minimizes
unfoldable pub is_minimize : Token → Bool
is_minimize t = bytes_eq (codes "minimize") t.text
