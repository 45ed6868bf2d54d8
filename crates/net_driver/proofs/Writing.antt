-- Two texts, written one behind the other.
use Rattle.std.proofs.Common.{◌≡◌, ℕ, List, ◌++◌, Ok, Err, sym, ap, ◌∙◌, append_assoc, subst}
use Rattle.std.specs.Prelude.{Option, Result, OnErr}
use Rattle.std.specs.Io.KnownBytes.{Appends}
use Rattle.std.proofs.KnownBytes.{Appends-trans}
use Rattle.net_io.specs.Ends.{WritesFront}

-- both texts were written
pub both_written : (a b c : Option (List ℕ)) (bytes first second : List ℕ) → bytes ≡ first → Appends a b bytes → Appends b c second → Appends a c (first ++ second)
both_written a b c bytes first second e gone w = Appends-trans a b c first second (subst (λ (l : List ℕ). Appends a b l) e gone) w

-- a write failed in the first text
pub first_failed : {A E : Type 0} (a b : Option (List ℕ)) (bytes first second : List ℕ) (r : Result A E) → bytes ≡ first → WritesFront a b bytes → OnErr r (WritesFront a b (first ++ second))
first_failed a b bytes first second (Ok v) e w = tt
first_failed a b bytes first second (Err v) e w = (w.0, w.1 ++ second, ap (λ (l : List ℕ). l ++ second) (sym e ∙ w.2) ∙ append_assoc w.0 w.1 second, w.3)

-- a write failed in the second text
pub second_failed : {A E : Type 0} (a b c : Option (List ℕ)) (bytes first second : List ℕ) (r : Result A E) → bytes ≡ first → Appends a b bytes → WritesFront b c second → OnErr r (WritesFront a c (first ++ second))
second_failed a b c bytes first second (Ok v) e gone w = tt
second_failed a b c bytes first second (Err v) e gone w = (
  first ++ w.0,
  w.1,
  ap (λ (l : List ℕ). first ++ l) w.2 ∙ sym (append_assoc first w.0 w.1),
  Appends-trans a b c first w.0 (subst (λ (l : List ℕ). Appends a b l) e gone) w.3,
)
