-- The binary operators of models, with the combinators of productions that the grammar needs.
use Rattle.std.specs.Prelude.{◌≡◌, ◌⊎◌, ℕ, Bool, true, nat_eq, if◌then◌else◌, List, [], ◌∷◌, codes}
use Rattle.net_lex.specs.declared.token.Kind.TheVariants as kinds
use Rattle.net_lex.specs.declared.token.Token.{Token}
use Rattle.net_lex.specs.Productions.{◌⨾◌, literal, mark}
use Rattle.net_tree.specs.declared.operator.BinOp.{BinOp}
use Rattle.net_tree.specs.declared.operator.BinOp.TheVariants as op
use Rattle.net_tree.specs.Precedence.{of_operands, of_product, of_sum, of_range, of_cross, of_inter, of_union, of_relation, of_and, of_or}

-- tokens, and the tokens that remain after them
abbrev pub Production : Type 1
Production = List Token → List Token → Type 0

-- no tokens at all
abbrev pub never : Production
never ts rest = ⊥

-- P or Q
infixr 9 ◌∪◌
abbrev pub ◌∪◌ : Production → Production → Production
(P ∪ Q) ts rest = P ts rest ⊎ Q ts rest

-- P, if the condition holds
abbrev pub when : Type 0 → Production → Production
when C P ts rest = C × P ts rest

-- a reserved word
abbrev pub word : List ℕ → Production
word = literal kinds.Key

-- each operator with its operation and its precedence; `by` is no operation of its own
abbrev pub operators : List (Production × BinOp × ℕ)
operators =
    (mark (codes "*"), op.Times, of_product) ∷ (word (codes "div"), op.Div, of_product) ∷ (word (codes "mod"), op.Mod, of_product)
    ∷ (mark (codes "+"), op.Plus, of_sum) ∷ (mark (codes "-"), op.Minus, of_sum)
    ∷ (mark (codes ".."), op.Range, of_range) ∷ (word (codes "by"), op.Other, of_range)
    ∷ (word (codes "cross"), op.Cross, of_cross)
    ∷ (word (codes "inter"), op.Inter, of_inter)
    ∷ (word (codes "union"), op.Union, of_union) ∷ (word (codes "diff"), op.Diff, of_union) ∷ (word (codes "symdiff"), op.Symdiff, of_union)
    ∷ (mark (codes "="), op.Equal, of_relation) ∷ (mark (codes "=="), op.Equal, of_relation) ∷ (mark (codes "<>"), op.Unequal, of_relation) ∷ (mark (codes "!="), op.Unequal, of_relation)
    ∷ (mark (codes "<"), op.Less, of_relation) ∷ (mark (codes "<="), op.AtMost, of_relation) ∷ (mark (codes ">"), op.Greater, of_relation) ∷ (mark (codes ">="), op.AtLeast, of_relation)
    ∷ (word (codes "in"), op.In, of_relation) ∷ (word (codes "not") ⨾ word (codes "in"), op.NotIn, of_relation)
    ∷ (word (codes "within"), op.Within, of_relation) ∷ (word (codes "not") ⨾ word (codes "within"), op.NotWithin, of_relation)
    ∷ (word (codes "and"), op.And, of_and)
    ∷ (word (codes "or"), op.Or, of_or)
    ∷ []

-- an entry of the table with this operation, which joins operands of precedence n
abbrev pub IsEntry : List (Production × BinOp × ℕ) → BinOp → ℕ → Production
IsEntry [] o n = never
IsEntry (e ∷ es) o n = when ((e.1 ≡ o) × (of_operands e.2 ≡ n)) e.0 ∪ IsEntry es o n

-- whether the operator can follow k others in a chain of operands of precedence n: a comparison has
-- one operator, a range has `..` and then `by`
abbrev pub can_follow : ℕ → ℕ → BinOp → Bool
can_follow k n op.Range = nat_eq k 0
can_follow k n op.Other = nat_eq k 1
can_follow k n o = if nat_eq n of_union then nat_eq k 0 else true

-- an operator after k others in a chain of operands of precedence n
abbrev pub IsOperator : ℕ → ℕ → BinOp → Production
IsOperator k n o = when (can_follow k n o ≡ true) (IsEntry operators o n)
