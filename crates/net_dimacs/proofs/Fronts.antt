-- The first line of a text, and the first field of a line.
use Rattle.std.proofs.Common.{◌≡◌, ◌≤◌, ◌<◌, ℕ, suc, ◌+◌, ◌-◌, ◌==◌, Bool, true, false, not, cond, List, [], ◌∷◌, refl, sym, ap, subst, ◌∙◌, length, take, drop, get_or, Some, None, arith, inl, inr, All}
use Rattle.std.specs.Prelude.{filter, nat_lt, Option, unwrap_or}
use Rattle.std.specs.List.{slice_split, onto_first, position, position_or_len, before_first, after_first}
use Rattle.std.specs.Str.Lines.{lines, lines_of_parts, strip_carriage_return}
use Rattle.std.proofs.lemmas.Bool.{cases_Bool, cases_lt}
use Rattle.std.proofs.lemmas.Bool.Decides.{nat_tests}
use Rattle.std.proofs.lemmas.Grind.{common_steps}
use Rattle.std.proofs.lemmas.List.Splits.{slice_split_none, slice_split_first}
use Rattle.std.proofs.lemmas.List.Sums.{prefix_len-le-length, fails_before_first, passes_at_first}
use Rattle.std.proofs.Math.Seq.{drop-cons, drop-drop}
use Rattle.net_dimacs.specs.Lines.{is_blank, has_byte, fields_of}
use Rattle.net_dimacs.proofs.LineSteps.{split_parts}

abbrev pub is_feed : ℕ → Bool
is_feed b = b == 10

abbrev pub is_other : ℕ → Bool
is_other b = not (is_blank b)

place_by : (t : Bool) (n m : ℕ) → nat_lt n m ≡ t → n ≤ m → unwrap_or (cond t (Some n) None) m ≡ n
place_by true n m e h = refl
place_by false n m e h = grind (arith, nat_tests)

-- the first place at which p passes, or the length
pub place_is : (p : ℕ → Bool) (xs : List ℕ) (o : Option ℕ) (k : ℕ) → o ≡ position p xs → k ≡ unwrap_or o (length xs) → k ≡ position_or_len p xs
place_is p xs o k e f =
    f ∙ ap (λ (x : Option ℕ). unwrap_or x (length xs)) e
    ∙ place_by (nat_lt (position_or_len p xs) (length xs)) (position_or_len p xs) (length xs) refl (prefix_len-le-length (λ x. not (p x)) xs)

pub place_within : (p : ℕ → Bool) (xs : List ℕ) (o : Option ℕ) (k : ℕ) → o ≡ position p xs → k ≡ unwrap_or o (length xs) → k ≤ length xs
place_within p xs o k e f = omega (arith, place_is p xs o k e f, prefix_len-le-length (λ x. not (p x)) xs)

-- no element passes
none_passes : (p : ℕ → Bool) (xs : List ℕ) → length xs ≤ position_or_len p xs → All (λ x. p x ≡ false) xs
none_passes p xs e k d m = let f = fails_before_first p xs k d (omega arith) in f

pub all_taken : (xs : List ℕ) (k : ℕ) → length xs ≤ k → take k xs ≡ xs
all_taken xs k h = grind (arith, common_steps)

all_dropped : (xs : List ℕ) (k : ℕ) → length xs ≤ k → drop k xs ≡ []
all_dropped xs k h = grind (arith, common_steps)

-- what stands behind the first byte of the rest
dropped_more : (text : List ℕ) (k : ℕ) → drop (k + 1) text ≡ drop 1 (drop k text)
dropped_more text k = sym (drop-drop 1 k text)

length_more : (text : List ℕ) (k : ℕ) → length (drop 1 (drop k text)) ≤ length (drop k text) - 1
length_more text k = grind (arith, common_steps)

pub after_first_byte : (text : List ℕ) (k : ℕ) → drop (k + 1) text ≡ take (length (drop k text) - 1) (drop 1 (drop k text))
after_first_byte text k = dropped_more text k ∙ sym (all_taken (drop 1 (drop k text)) (length (drop k text) - 1) (length_more text k))

-- ---- lines

lines_by : (x y : List ℕ) (ys parts : List (List ℕ)) → parts ≡ y ∷ ys → lines_of_parts (x ∷ parts) ≡ strip_carriage_return x ∷ lines_of_parts parts
lines_by x y ys parts e = subst (λ (ps : List (List ℕ)). lines_of_parts (x ∷ ps) ≡ strip_carriage_return x ∷ lines_of_parts ps) (sym e) refl

-- the line before the first LF
pub first_line : (text : List ℕ) (k : ℕ) → k ≡ position_or_len is_feed text → k < length text → lines text ≡ strip_carriage_return (take k text) ∷ lines (drop (k + 1) text)
first_line text k e h =
    let within : position_or_len is_feed text < length text = omega arith in
    let p = split_parts (after_first is_feed text) in
    subst (λ (n : ℕ). lines text ≡ strip_carriage_return (take n text) ∷ lines (drop (n + 1) text)) (sym e)
    (ap lines_of_parts (slice_split_first is_feed text 0 within) ∙ lines_by (before_first is_feed text) p.0 p.1 (slice_split is_feed (after_first is_feed text)) p.2)

some_line : (b : ℕ) (bs : List ℕ) → (length (b ∷ bs) == 0) ≡ false
some_line b bs = grind (arith, nat_tests)

-- the last line, which lacks its LF
pub last_line : (text : List ℕ) → 0 < length text → length text ≤ position_or_len is_feed text → lines text ≡ text ∷ []
last_line [] some h = absurd (omega arith)
last_line (b ∷ bs) some h =
    ap lines_of_parts (slice_split_none is_feed (b ∷ bs) (none_passes is_feed (b ∷ bs) h))
    ∙ ap (λ (t : Bool). cond t [] ((b ∷ bs) ∷ [])) (some_line b bs)

-- ---- fields

-- blanks in front are none of a field
pub skip_blanks : (xs : List ℕ) → fields_of xs ≡ fields_of (drop (position_or_len is_other xs) xs)
skip_blanks [] = refl
skip_blanks (x ∷ xs) =
    let n = position_or_len is_other xs in
    elim (cases_Bool (is_blank x)) [
      | inl e ↦ ap (λ (t : Bool). filter has_byte (cond t ([] ∷ slice_split is_blank xs) (onto_first x (slice_split is_blank xs)))) e
          ∙ skip_blanks xs
          ∙ ap (λ (k : ℕ). fields_of (drop k (x ∷ xs))) (let one : suc n ≡ 1 + n = omega arith in one)
          ∙ ap (λ (t : Bool). fields_of (drop (cond (not (not t)) (1 + n) 0) (x ∷ xs))) (sym e)
      | inr e ↦ ap (λ (t : Bool). fields_of (drop (cond (not (not t)) (1 + n) 0) (x ∷ xs))) (sym e)
    ]

-- what follows those blanks begins with another byte
pub begins_other : (xs : List ℕ) → 0 < length (drop (position_or_len is_other xs) xs) → 0 < position_or_len is_blank (drop (position_or_len is_other xs) xs)
begins_other [] h = absurd (omega arith)
begins_other (x ∷ xs) h =
    let n = position_or_len is_other xs in
    let P : ℕ → Type 0 = λ k. 0 < length (drop k (x ∷ xs)) → 0 < position_or_len is_blank (drop k (x ∷ xs)) in
    let by : P (cond (not (not (is_blank x))) (1 + n) 0) = elim (cases_Bool (is_blank x)) [
      | inl e ↦ subst P ((let one : suc n ≡ 1 + n = omega arith in one) ∙ ap (λ (t : Bool). cond (not (not t)) (1 + n) 0) (sym e)) (begins_other xs)
      | inr e ↦ subst P (ap (λ (t : Bool). cond (not (not t)) (1 + n) 0) (sym e))
          (λ _. subst (λ (t : Bool). 0 < cond (not t) (1 + position_or_len is_blank xs) 0) (sym e) (omega arith))
    ]
    in by h

pub some_field : (xs : List ℕ) (fs : List (List ℕ)) → 0 < length xs → filter has_byte (xs ∷ fs) ≡ xs ∷ filter has_byte fs
some_field [] fs h = absurd (omega arith)
some_field (x ∷ xs) fs h = refl

pub after_blank : (y : ℕ) (ys : List ℕ) → is_blank y ≡ true → fields_of (y ∷ ys) ≡ fields_of ys
after_blank y ys e = ap (λ (t : Bool). filter has_byte (cond t ([] ∷ slice_split is_blank ys) (onto_first y (slice_split is_blank ys)))) e

inner_field : (xs : List ℕ) → 0 < position_or_len is_blank xs → position_or_len is_blank xs < length xs
    → fields_of xs ≡ take (position_or_len is_blank xs) xs ∷ fields_of (drop (position_or_len is_blank xs) xs)
inner_field xs some within =
    let k = position_or_len is_blank xs in
    let rest : drop k xs ≡ get_or xs k 0 ∷ drop (suc k) xs = drop-cons xs k 0 within in
    let one : k + 1 ≡ suc k = omega arith in
    ap (filter has_byte) (slice_split_first is_blank xs 0 within)
    ∙ some_field (take k xs) (slice_split is_blank (drop (k + 1) xs)) (grind (arith, common_steps))
    ∙ ap (λ (ys : List ℕ). take k xs ∷ fields_of ys) (ap (λ (j : ℕ). drop j xs) one)
    ∙ ap (λ (fs : List (List ℕ)). take k xs ∷ fs) (sym (after_blank (get_or xs k 0) (drop (suc k) xs) (passes_at_first is_blank xs 0 within)) ∙ ap fields_of (sym rest))

last_field : (xs : List ℕ) → 0 < length xs → length xs ≤ position_or_len is_blank xs → fields_of xs ≡ take (position_or_len is_blank xs) xs ∷ fields_of (drop (position_or_len is_blank xs) xs)
last_field xs some all =
    let k = position_or_len is_blank xs in
    ap (filter has_byte) (slice_split_none is_blank xs (none_passes is_blank xs all))
    ∙ some_field xs [] some
    ∙ ap (λ (ys : List ℕ). ys ∷ []) (sym (all_taken xs k all))
    ∙ ap (λ (ys : List ℕ). take k xs ∷ fields_of ys) (sym (all_dropped xs k all))

-- the bytes before the first blank
pub first_field : (xs : List ℕ) (k : ℕ) → k ≡ position_or_len is_blank xs → 0 < k → 0 < length xs → fields_of xs ≡ take k xs ∷ fields_of (drop k xs)
first_field xs k e some has =
    let P : ℕ → Type 0 = λ n. fields_of xs ≡ take n xs ∷ fields_of (drop n xs) in
    subst P (sym e) (elim (cases_lt (position_or_len is_blank xs) (length xs)) [
      | inl h ↦ inner_field xs (omega arith) h
      | inr h ↦ last_field xs has h
    ])
