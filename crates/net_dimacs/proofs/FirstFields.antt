-- The first field of some bytes, cut out of them.
use Rattle.std.proofs.Common.{◌≡◌, ◌≤◌, ◌<◌, ℕ, suc, ◌+◌, Bool, true, false, not, cond, List, [], ◌∷◌, ◌++◌, refl, sym, ap, subst, ◌∙◌, length, take, drop, get_or, append-nil, ◌-◌, arith}
use Rattle.std.specs.List.{AllByRecursion, position_or_len}
use Rattle.std.proofs.lemmas.Grind.{common_steps}
use Rattle.std.proofs.lemmas.List.{take-append-drop, nil_from_length}
use Rattle.std.proofs.Math.Seq.{drop-cons}
use Rattle.net_dimacs.specs.Lines.{is_blank, is_feed, HasNone, BeginsBlank, IsFirstField}
use Rattle.net_dimacs.proofs.Fronts.{is_other, begins_other}
use Rattle.net_dimacs.proofs.Lists.{all_map}

-- no byte before the first that passes does
pub none_before : (test : ℕ → Bool) (xs : List ℕ) → HasNone test (take (position_or_len test xs) xs)
none_before test [] = tt
none_before test (x ∷ xs) = step (test x) refl (none_before test xs)
  where
    step : (t : Bool) → test x ≡ t → HasNone test (take (position_or_len test xs) xs) → HasNone test (take (cond (not t) (1 + position_or_len test xs) 0) (x ∷ xs))
    step true e more = tt
    step false e more = subst (λ (n : ℕ). HasNone test (take n (x ∷ xs))) (let one : suc (position_or_len test xs) ≡ 1 + position_or_len test xs = omega arith in one) (e, more)

begins_blank : (xs : List ℕ) → BeginsBlank (drop (position_or_len is_blank xs) xs)
begins_blank [] = tt
begins_blank (x ∷ xs) = step (is_blank x) refl (begins_blank xs)
  where
    step : (t : Bool) → is_blank x ≡ t → BeginsBlank (drop (position_or_len is_blank xs) xs) → BeginsBlank (drop (cond (not t) (1 + position_or_len is_blank xs) 0) (x ∷ xs))
    step true e more = e
    step false e more = subst (λ (n : ℕ). BeginsBlank (drop n (x ∷ xs))) (let one : suc (position_or_len is_blank xs) ≡ 1 + position_or_len is_blank xs = omega arith in one) more

not_other : (b : ℕ) → is_other b ≡ false → is_blank b ≡ true
not_other b e = by (is_blank b) e
  where
    by : (t : Bool) → not t ≡ false → t ≡ true
    by true f = refl
    by false f = absurd cc

blanks_before : (xs : List ℕ) → AllByRecursion (λ b. is_blank b ≡ true) (take (position_or_len is_other xs) xs)
blanks_before xs = all_map (λ b. is_other b ≡ false) (λ b. is_blank b ≡ true) (take (position_or_len is_other xs) xs) not_other (none_before is_other xs)

some_taken : (xs : List ℕ) (k : ℕ) → 0 < k → 0 < length xs → 0 < length (take k xs)
some_taken xs k some has = grind (arith, common_steps)

pub first_field_is : (bytes rest : List ℕ) (k : ℕ) → rest ≡ drop (position_or_len is_other bytes) bytes → 0 < length rest → k ≡ position_or_len is_blank rest → IsFirstField bytes (take k rest) (drop k rest)
first_field_is bytes rest k e has at =
    let n = position_or_len is_other bytes in
    let P : List ℕ → Type 0 = λ r. 0 < length r → 0 < position_or_len is_blank r in
    let begins : P rest = subst P (sym e) (begins_other bytes) in
    let some : 0 < k = subst (λ (m : ℕ). 0 < m) (sym at) (begins has) in
    record {
      blanks = take n bytes;
      whole = sym (take-append-drop n bytes) ∙ ap (λ (l : List ℕ). take n bytes ++ l) (sym e ∙ sym (take-append-drop k rest));
      before = blanks_before bytes;
      some = some_taken rest k some has;
      solid = subst (λ (m : ℕ). HasNone is_blank (take m rest)) (sym at) (none_before is_blank rest);
      behind = subst (λ (m : ℕ). BeginsBlank (drop m rest)) (sym at) (begins_blank rest);
    }

pub only_blanks : (bytes rest : List ℕ) → rest ≡ drop (position_or_len is_other bytes) bytes → length rest ≡ 0 → AllByRecursion (λ b. is_blank b ≡ true) bytes
only_blanks bytes rest e none =
    let n = position_or_len is_other bytes in
    let all : take n bytes ≡ bytes =
    sym (append-nil (take n bytes)) ∙ ap (λ (l : List ℕ). take n bytes ++ l) (sym (nil_from_length rest none) ∙ e) ∙ take-append-drop n bytes in
    subst (AllByRecursion (λ b. is_blank b ≡ true)) all (blanks_before bytes)

-- ---- what follows the last LF

pub none_open : (bytes : List ℕ) → HasNone is_feed (drop (length bytes) bytes)
none_open [] = tt
none_open (b ∷ bytes) = none_open bytes

pub one_more_open : (bytes : List ℕ) (k : ℕ) → k ≤ length bytes → 0 < k → is_feed (get_or bytes (k - 1) 0) ≡ false → HasNone is_feed (drop k bytes) → HasNone is_feed (drop (k - 1) bytes)
one_more_open bytes k within some here behind =
    let more : drop (k - 1) bytes ≡ get_or bytes (k - 1) 0 ∷ drop k bytes =
    drop-cons bytes (k - 1) 0 (omega (arith, within, some)) ∙ ap (λ (n : ℕ). get_or bytes (k - 1) 0 ∷ drop n bytes) (let e : suc (k - 1) ≡ k = omega (arith, some) in e) in
    subst (HasNone is_feed) (sym more) (here, behind)
