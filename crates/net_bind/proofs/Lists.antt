-- Fronts and backs of lists.
use Rattle.std.specs.Prelude.{◌≡◌, ℕ, zero, suc, ◌+◌, ◌<◌, ◌==◌, false, List, [], ◌∷◌, ◌++◌, length, drop, take, Ok}
use Rattle.std.proofs.Common.{refl, sym, ap, ◌∙◌, arith, append_assoc}
use Rattle.net_lex.specs.declared.token.Token.{Token}
use Rattle.net_data.specs.Rows.{groups}
use Rattle.net_data.proofs.GroupLemmas.{groups-cons}
use Rattle.net_bind.specs.declared.given.NamedData.{NamedData}
use Rattle.net_bind.specs.Names.{Declared}
use Rattle.net_bind.specs.DataByName.{no_data}
use Rattle.net_base.specs.declared.diagnostic.Span.{Span}
use Rattle.net_base.specs.Outcomes.{Outcome, and_then}
use Rattle.net_bind.specs.SetData.{whole_group, whole_groups}

one_less : (i : ℕ) (ds : Declared) → i < length ds → no_data (take i ds) ++ [] ∷ [] ≡ no_data (take (suc i) ds)
one_less zero [] l = absurd (omega (arith, l))
one_less zero (d ∷ ds) l = refl
one_less (suc i) [] l = absurd (omega (arith, l))
one_less (suc i) (d ∷ ds) l = ap (◌∷◌ []) (one_less i ds (omega (arith, l)))

-- nothing is said of one name more
pub unsaid_more : (i : ℕ) (ds : Declared) (all : List (List NamedData)) → all ≡ no_data (take i ds) → i < length ds → all ++ [] ∷ [] ≡ no_data (take (i + 1) ds)
unsaid_more i ds all e l =
    let next : suc i ≡ i + 1 = omega arith in ap (λ x. x ++ [] ∷ []) e ∙ one_less i ds l ∙ ap (λ k. no_data (take k ds)) next

-- one group more
pub group_more : (size : ℕ) (left row rest : List Token) (all total : List (List Token)) → 0 < size → (length left == 0) ≡ false → row ≡ take size left → rest ≡ drop size left
    → all ++ groups size left ≡ total → (all ++ row ∷ []) ++ groups size rest ≡ total
group_more size [] row rest all total s n r b e = cc
group_more size (t ∷ ts) row rest all total s n r b e =
    ap (λ g. (all ++ g ∷ []) ++ groups size rest) r ∙ ap (λ g. (all ++ take size (t ∷ ts) ∷ []) ++ groups size g) b
    ∙ append_assoc all (take size (t ∷ ts) ∷ []) (groups size (drop size (t ∷ ts)))
    ∙ ap (λ gs. all ++ gs) (sym (groups-cons size (t ∷ ts) s (omega arith))) ∙ e

-- the first group is whole, or else the error
checks_first : (at : Span) (keys size : ℕ) (left : List Token) → 0 < size → (length left == 0) ≡ false
    → whole_groups at keys size (groups size left) ≡ and_then (whole_group at keys size (take size left)) (λ u. whole_groups at keys size (groups size (drop size left)))
checks_first at keys size [] s n = cc
checks_first at keys size (t ∷ ts) s n = ap (whole_groups at keys size) (groups-cons size (t ∷ ts) s (omega arith))

pub checks_more : (at : Span) (keys size : ℕ) (left rest : List Token) (u : Unit {0}) (total : Outcome (Unit {0})) → 0 < size → (length left == 0) ≡ false
    → whole_group at keys size (take size left) ≡ Ok u → rest ≡ drop size left → whole_groups at keys size (groups size left) ≡ total → whole_groups at keys size (groups size rest) ≡ total
checks_more at keys size left rest u total s n h b e =
    ap (λ r. whole_groups at keys size (groups size r)) b
    ∙ sym (ap (λ (o : Outcome (Unit {0})). and_then o (λ v. whole_groups at keys size (groups size (drop size left)))) h)
    ∙ sym (checks_first at keys size left s n) ∙ e
