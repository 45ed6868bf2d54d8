-- An operator of numbers, applied, makes what it makes of two numbers.
use Rattle.std.specs.Prelude.{◌≡◌, ◌⊎◌, Result, Ok, Err}
use Rattle.std.proofs.Common.{inl, inr, refl, sym, subst}
use Rattle.net_base.specs.declared.diagnostic.Span.{Span}
use Rattle.net_base.specs.declared.diagnostic.Fault.{Fault}
use Rattle.net_base.specs.declared.diagnostic.Fault.TheVariants as faults
use Rattle.net_base.specs.Outcomes.{Outcome, Refines, Yields}
use Rattle.net_tree.specs.declared.operator.BinOp.{BinOp}
use Rattle.net_tree.specs.declared.operator.BinOp.TheVariants as op
use Rattle.net_expr.specs.declared.value.Value.{Value}
use Rattle.net_expr.specs.Operators.{of_numbers, of_two, apply}

-- what is decided is answered
pub answered : {A : Type 0} (o : Outcome A) (r : Result A Fault) → Yields o r → Refines o r
answered o (Ok x) h = h
answered o (Err faults.OutOfMemory) h = absurd h
answered o (Err (faults.At f)) h = h

applied : (o p : BinOp) (at : Span) (x y : Value) (r : Result Value Fault) → o ≡ p → of_numbers at (of_two p at) x y ≡ apply p at x y → Yields (of_numbers at (of_two o at) x y) r
    → Refines (apply o at x y) r
applied o p at x y r is same h =
    subst (λ q. Refines (apply q at x y) r) (sym is)
    (subst (λ w. Refines w r) same (answered _ r (subst (λ q. Yields (of_numbers at (of_two q at) x y) r) is h)))

pub numbers_applied : (o : BinOp) (at : Span) (x y : Value) (r : Result Value Fault)
    → (o ≡ op.Plus) ⊎ (o ≡ op.Minus) ⊎ (o ≡ op.Times) ⊎ (o ≡ op.Div) ⊎ (o ≡ op.Mod) ⊎ (o ≡ op.Less) ⊎ (o ≡ op.AtMost) ⊎ (o ≡ op.Greater) ⊎ (o ≡ op.AtLeast)
    → Yields (of_numbers at (of_two o at) x y) r → Refines (apply o at x y) r
numbers_applied o at x y r (inl e) h = applied o op.Plus at x y r e refl h
numbers_applied o at x y r (inr (inl e)) h = applied o op.Minus at x y r e refl h
numbers_applied o at x y r (inr (inr (inl e))) h = applied o op.Times at x y r e refl h
numbers_applied o at x y r (inr (inr (inr (inl e)))) h = applied o op.Div at x y r e refl h
numbers_applied o at x y r (inr (inr (inr (inr (inl e))))) h = applied o op.Mod at x y r e refl h
numbers_applied o at x y r (inr (inr (inr (inr (inr (inl e)))))) h = applied o op.Less at x y r e refl h
numbers_applied o at x y r (inr (inr (inr (inr (inr (inr (inl e))))))) h = applied o op.AtMost at x y r e refl h
numbers_applied o at x y r (inr (inr (inr (inr (inr (inr (inr (inl e)))))))) h = applied o op.Greater at x y r e refl h
numbers_applied o at x y r (inr (inr (inr (inr (inr (inr (inr (inr e)))))))) h = applied o op.AtLeast at x y r e refl h
