-- Text as contracts see it.
use Rattle.std.specs.Prelude.{ℕ, List, refl}
use Rattle.std.specs.Coded.{Coded, code_by, coded_list, coded_ℕ}

-- the bytes, in order
pub record Bytes : Type 0 where
  pub items : List ℕ

-- a text is encoded as the list of its bytes
abbrev pub coded_bytes : Coded Bytes
coded_bytes = code_by (List ℕ) (coded_list coded_ℕ) (λ t. t.items) (λ xs. record { items = xs }) (λ _. refl)
