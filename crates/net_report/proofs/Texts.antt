-- Texts that are written part by part.
use Rattle.std.proofs.Common.{◌≡◌, ℕ, List, ◌++◌, ap, ◌∙◌, append_assoc}

pub four_parts : (a b c d t₁ t₂ t₃ t₄ : List ℕ) → t₁ ≡ a → t₂ ≡ t₁ ++ b → t₃ ≡ t₂ ++ c → t₄ ≡ t₃ ++ d → t₄ ≡ a ++ (b ++ (c ++ d))
four_parts a b c d t₁ t₂ t₃ t₄ e₁ e₂ e₃ e₄ =
    e₄
    ∙ ap (λ t. t ++ d) (e₃ ∙ ap (λ t. t ++ c) (e₂ ∙ ap (λ t. t ++ b) e₁))
    ∙ append_assoc (a ++ b) c d
    ∙ append_assoc a b (c ++ d)

-- the same after a text
pub four_appended : (t a b c d t₁ t₂ t₃ t₄ : List ℕ) → t₁ ≡ t ++ a → t₂ ≡ t₁ ++ b → t₃ ≡ t₂ ++ c → t₄ ≡ t₃ ++ d → t₄ ≡ t ++ (a ++ (b ++ (c ++ d)))
four_appended t a b c d t₁ t₂ t₃ t₄ e₁ e₂ e₃ e₄ =
    e₄
    ∙ ap (λ x. x ++ d) (e₃ ∙ ap (λ x. x ++ c) (e₂ ∙ ap (λ x. x ++ b) e₁))
    ∙ append_assoc ((t ++ a) ++ b) c d
    ∙ append_assoc (t ++ a) b (c ++ d)
    ∙ append_assoc t a (b ++ (c ++ d))
