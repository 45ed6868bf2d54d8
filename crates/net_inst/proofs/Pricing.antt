-- Arcs get their coefficients one after the other.
use Rattle.std.specs.Prelude.{◌≡◌, ◌+◌, ◌<◌, ◌≤◌, ℕ, suc, List, [], ◌∷◌, ◌++◌, length, get_or, drop, ℤ, All}
use Rattle.std.proofs.Common.{refl, ap, sym, subst, ◌∙◌, add-one, append_assoc, length-append, arith}
use Rattle.std.proofs.Math.Seq.{drop-cons}
use Rattle.std.proofs.lemmas.List.Elements.{All-push}
use Rattle.net_normal.specs.declared.instance.InstArc.{InstArc}
use Rattle.net_normal.specs.Limits.{IsSized, value_limit}
use Rattle.net_linear.specs.Forms.{Products, coefficient}
use Rattle.net_inst.specs.declared.arc.Built.{Built}
use Rattle.net_inst.specs.Fitting.{IsPriced}
use Rattle.net_inst.specs.Instances.{with_coefficient, with_coefficients}

left : {A : Type 0} (xs : List A) (i : ℕ) (d : A) → i < length xs → drop i xs ≡ get_or xs i d ∷ drop (i + 1) xs
left xs i d h = let a = drop-cons xs i d h in let b = add-one i in cc

-- one arc more
pub priced-more : (ps : Products) (xs : List Built) (i : ℕ) (d : Built) (done new wanted : List InstArc) (y : InstArc) (k : ℤ) → i < length xs → y ≡ with_coefficient (get_or xs i d) k → k ≡ coefficient ps (length done)
    → new ≡ done ++ y ∷ [] → done ++ with_coefficients ps (length done) (drop i xs) ≡ wanted → new ++ with_coefficients ps (length new) (drop (i + 1) xs) ≡ wanted
priced-more ps xs i d done new wanted y k h e c n inv =
    let long : length (done ++ y ∷ []) ≡ suc (length done) = omega (arith, length-append done (y ∷ [])) in
    ap (λ (all : List InstArc). all ++ with_coefficients ps (length all) (drop (i + 1) xs)) n
    ∙ ap (λ (m : ℕ). (done ++ y ∷ []) ++ with_coefficients ps m (drop (i + 1) xs)) long
    ∙ append_assoc done (y ∷ []) (with_coefficients ps (suc (length done)) (drop (i + 1) xs))
    ∙ ap (λ (rest : List InstArc). done ++ rest) (ap (λ (z : InstArc). z ∷ with_coefficients ps (suc (length done)) (drop (i + 1) xs)) (e ∙ ap (with_coefficient (get_or xs i d)) c) ∙ ap (with_coefficients ps (length done)) (sym (left xs i d h)))
    ∙ inv

pub sized-more : (done new : List InstArc) (y : InstArc) (x : Built) (k : ℤ) → y ≡ with_coefficient x k → IsSized value_limit k → new ≡ done ++ y ∷ [] → All IsPriced done → All IsPriced new
sized-more done new y x k e s n all =
    let priced : IsPriced y = subst IsPriced (sym e) s in
    subst (All IsPriced) (sym n) (All-push IsPriced done y all priced)

pub priced-few : (n : ℕ) (ps : Products) (a : ℕ) (xs : List Built) (all : List InstArc) → all ≡ with_coefficients ps a xs → length xs ≤ n → length all ≤ n
priced-few n ps a xs all e h = omega (arith, ap length e, same ps a xs, h)
  where
    same : (ps : Products) (a : ℕ) (xs : List Built) → length (with_coefficients ps a xs) ≡ length xs
    same ps a [] = refl
    same ps a (x ∷ xs) = ap suc (same ps (suc a) xs)
