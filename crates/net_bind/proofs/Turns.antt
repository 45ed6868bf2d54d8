-- Lists whose items are taken in turn.
use Rattle.std.specs.Prelude.{◌≡◌, ℕ, ◌+◌, ◌<◌, List, ◌∷◌, length, map, drop, Ok}
use Rattle.std.proofs.Common.{sym, ap, ◌∙◌, add-one, get_or}
use Rattle.std.proofs.Math.Seq.{drop-cons}
use Rattle.net_base.specs.Outcomes.{Outcome, and_then, each}

item_at : {A : Type 0} (xs : List A) (i : ℕ) (x : A) → i < length xs → x ≡ get_or xs i x → drop i xs ≡ x ∷ drop (i + 1) xs
item_at xs i x l e = let a = drop-cons xs i x l in let b = add-one i in cc

-- what the next item comes to leads on to what all come to
pub in_turn : {A B : Type 0} (f : A → B → Outcome B) (xs : List A) (i : ℕ) (x : A) (b c : B) (all : Outcome B) → each f (drop i xs) b ≡ all → i < length xs → x ≡ get_or xs i x
    → f x b ≡ Ok c → each f (drop (i + 1) xs) c ≡ all
in_turn f xs i x b c all h l e o =
    sym (ap (λ ys. each f ys b) (item_at xs i x l e) ∙ ap (λ r. and_then r (each f (drop (i + 1) xs))) o) ∙ h

-- the same of what is seen of each item
pub in_turn_by : {A B C : Type 0} (g : A → C) (f : C → B → Outcome B) (xs : List A) (i : ℕ) (x : A) (b c : B) (all : Outcome B) → each f (map g (drop i xs)) b ≡ all → i < length xs
    → x ≡ get_or xs i x → f (g x) b ≡ Ok c → each f (map g (drop (i + 1) xs)) c ≡ all
in_turn_by g f xs i x b c all h l e o =
    sym (ap (λ ys. each f (map g ys) b) (item_at xs i x l e) ∙ ap (λ r. and_then r (each f (map g (drop (i + 1) xs)))) o) ∙ h
