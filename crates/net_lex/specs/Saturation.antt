-- Numbers that the code stores only up to a bound, and the exact numbers that they represent.
use Rattle.std.specs.Prelude.{◌≡◌, ℕ, min}
use Rattle.net_lex.specs.Significands.{Significand}
use Rattle.net_lex.specs.declared.significand.Significand as code

-- the digits in the code are the exact digits, saturated at the bound
pub record StandsFor (bound : ℕ) (kept : code.Significand) (g : Significand) : Type 0 where
  pub digits : kept.digits ≡ min g.digits bound
  pub zeros : kept.zeros ≡ g.zeros

-- if the old number represents g, the new one represents f g
abbrev pub Follows : ℕ → code.Significand → code.Significand → (Significand → Significand) → Type 0
Follows bound old new f = (g : Significand) → StandsFor bound old g → StandsFor bound new (f g)
