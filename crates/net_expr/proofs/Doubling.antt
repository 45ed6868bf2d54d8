-- Single quotes doubled, by pieces between them.
use Rattle.std.specs.Prelude.{◌≡◌, ℕ, suc, false, List, [], ◌∷◌, ◌++◌, nat_eq}
use Rattle.std.proofs.Common.{refl, ap, sym, ◌∙◌, arith, append-nil}
use Rattle.std.proofs.lemmas.Bool.{ne_eqb}
use Rattle.net_sets.proofs.Singles.{Lacks}
use Rattle.net_expr.specs.References.{doubled}

up_to : (before more : List ℕ) → Lacks 39 before → doubled (before ++ more) ≡ before ++ doubled more
up_to [] more lacks = refl
up_to (c ∷ before) more lacks =
    let other : nat_eq c 39 ≡ false = ne_eqb c 39 (lacks 0 (omega arith)) in
    rw other (ap (λ (l : List ℕ). c ∷ l) (up_to before more (λ i within. lacks (suc i) (omega arith))))

pub none_doubled : (text : List ℕ) → Lacks 39 text → doubled text ≡ text
none_doubled text lacks = ap doubled (sym (append-nil text)) ∙ up_to text [] lacks ∙ append-nil text

pub doubled_after : (before after : List ℕ) → Lacks 39 before → doubled (before ++ (39 ∷ after)) ≡ before ++ (39 ∷ 39 ∷ doubled after)
doubled_after before after lacks = up_to before (39 ∷ after) lacks
