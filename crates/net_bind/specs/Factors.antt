-- A product after `within`. It is not enumerated, so its size has no limit: its factors are evaluated, and a tuple is in it if its components
-- are in them.
use Rattle.std.specs.Prelude.{ℕ, ◌+◌, ◌&&◌, Bool, true, false, List, [], nat_le, Option, None, Some, if◌then◌else◌, Ok}
use Rattle.net_base.specs.declared.diagnostic.Span.{Span}
use Rattle.net_base.specs.declared.error_code.ErrorCode.TheVariants.{KindMismatch, Arity}
use Rattle.net_base.specs.Outcomes.{Outcome, and_then, rejected}
use Rattle.net_sets.specs.Limits.{arity_limit}
use Rattle.net_sets.specs.Operations.{union, product, widest, narrowest}
use Rattle.net_sets.specs.Sets.{Tuple}
use Rattle.net_tree.specs.declared.operator.BinOp.{BinOp}
use Rattle.net_tree.specs.declared.operator.BinOp.TheVariants as op
use Rattle.net_tree.specs.Operations.{operation}
use Rattle.net_tree.specs.Spans.{span_of}
use Rattle.net_tree.specs.Tree.{Tree, Links, parens, chain, none, link}
use Rattle.net_expr.specs.declared.value.Value.{Value}
use Rattle.net_expr.specs.declared.value.Value.TheVariants.{Many}
use Rattle.net_expr.specs.Sets.{counted}
use Rattle.net_expr.specs.Values.{value}
use Rattle.net_expr.specs.Worlds.{World}

-- a set with its dimension; `{}` has none
pub record SizedSet : Type 0 where
  pub dimension : Option ℕ
  pub tuples : List Tuple

abbrev pub is_cross : BinOp → Bool
is_cross op.Cross = true
is_cross _ = false

abbrev pub are_crosses : Links → Bool
are_crosses none = true
are_crosses (link o y l) = is_cross (operation o) && are_crosses l

-- an expression that is a product by its form, in parentheses or not
abbrev pub is_product : Tree → Bool
is_product (parens o x c) = is_product x
is_product (chain n x l) = are_crosses l
is_product _ = false

-- each tuple has so many members
abbrev pub have_size : ℕ → List Tuple → Bool
have_size n ts = nat_le (widest ts) n && nat_le n (narrowest ts)

-- a value as a factor; None if it is no set. The tuples of each set have its dimension, so this never rejects.
abbrev pub as_factor : Span → Value → Outcome (Option SizedSet)
as_factor at (Many d ts) = if have_size (counted d) ts then Ok (Some (record { dimension = d; tuples = ts })) else rejected Arity at
as_factor at _ = Ok None

abbrev pub both_crossed : SizedSet → SizedSet → SizedSet
both_crossed a b = record { dimension = Some (counted a.dimension + counted b.dimension); tuples = union [] (product a.tuples b.tuples) }

abbrev pub crossed : Span → Option SizedSet → Option SizedSet → Outcome (Option SizedSet)
crossed at (Some a) (Some b) = if nat_le (counted a.dimension + counted b.dimension) arity_limit then Ok (Some (both_crossed a b)) else rejected Arity at
crossed at _ _ = rejected KindMismatch at

abbrev pub factor : World → Tree → Outcome (Option SizedSet)
factor w x = and_then (value w [] x) (as_factor (span_of x))

-- a set, with the factors after it from left to right
abbrev pub with_factors : Span → World → Links → Option SizedSet → Outcome (Option SizedSet)
with_factors at w none a = Ok a
with_factors at w (link o y l) a = and_then (factor w y) (λ b. and_then (crossed at a b) (with_factors at w l))

-- the set of an expression, or None; a first operand that is a product by its form is one here too
abbrev pub product_of : World → Tree → Outcome (Option SizedSet)
product_of w (parens o x c) = product_of w x
product_of w (chain n x l) = if are_crosses l then and_then (product_of w x) (with_factors (span_of (chain n x l)) w l) else factor w (chain n x l)
product_of w x = factor w x
