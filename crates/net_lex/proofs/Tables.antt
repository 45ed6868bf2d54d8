-- What holds of every entry of the tables of words and marks, each told once over the whole list.
use Rattle.std.proofs.Common.{◌≡◌, ℕ, ◌<◌, ◌≤◌, Bool, true, false, not, cond, ◌&&◌, ◌||◌, ◌==◌, nat_lt, nat_le, List, [], ◌∷◌, ◌++◌, length, length-take, take, take_at, ◌⊎◌, max, nat_eq, refl, sym, ap, ◌∙◌, arith, inl, inr, subst}
use Rattle.std.proofs.lemmas.Bool.{cases_Bool, cases_lt, and_parts, or_cases, or_left, or_right, false≢true}
use Rattle.std.proofs.lemmas.Slice.Eq.{bytes_eq-Decides}
use Rattle.std.specs.List.{list_all, starts_with, fold}
use Rattle.std.specs.Char.{is_ascii_digit, is_ascii_alphanumeric}
use Rattle.std.specs.Str.{bytes_eq}
use Rattle.net_lex.specs.Bytes.{first, second, point}
use Rattle.net_lex.specs.Characters.{is_blank, is_quote, starts_name, continues_name}
use Rattle.net_lex.specs.Words.{reserved, model_marks, data_marks, is_among, is_reserved, model_mark_len, data_mark_len}

bytes_same : (xs ys : List ℕ) → bytes_eq xs ys ≡ true → xs ≡ ys
bytes_same xs ys h = (bytes_eq-Decides xs ys).0 h

-- a test that each entry passes
pub passes_among : (test : List ℕ → Bool) (table : List (List ℕ)) (text : List ℕ) → list_all test table ≡ true → is_among table text ≡ true → test text ≡ true
passes_among test [] text all h = absurd (false≢true h)
passes_among test (e ∷ es) text all h =
    let (here, more) = and_parts (test e) (list_all test es) all in
    elim (or_cases (bytes_eq e text) (is_among es text) h) [
      | inl same ↦ subst (λ t. test t ≡ true) (bytes_same e text same) here
      | inr later ↦ passes_among test es text more later
    ]

abbrev pub is_name : List ℕ → Bool
is_name text = starts_name (first text) && list_all continues_name text

pub reserved_names : (text : List ℕ) → is_reserved text ≡ true → is_name text ≡ true
unfolding is_reserved
reserved_names text h = passes_among is_name reserved text refl h

-- no mark begins as a name, a string or a number does
abbrev pub is_mark_form : List ℕ → Bool
is_mark_form text = (((nat_lt 0 (length text) && list_all (λ c. nat_lt c 128) text) && not (starts_name (first text))) && not (is_quote (first text)))
    && ((not (is_ascii_digit (first text)) && not (is_blank (first text))) && ((not (first text == point) || nat_le (length text) 1) || second text == point))

pub model_mark_forms : (text : List ℕ) → is_among model_marks text ≡ true → is_mark_form text ≡ true
model_mark_forms text h = passes_among is_mark_form model_marks text refl h

pub data_mark_forms : (text : List ℕ) → is_among data_marks text ≡ true → is_mark_form text ≡ true
data_mark_forms text h = passes_among is_mark_form data_marks text refl h

-- the longest entry at the front of a text, from a length that is known on
abbrev longest_from : ℕ → List (List ℕ) → List ℕ → ℕ
longest_from n table text = fold (λ n entry. cond (starts_with nat_eq text entry) (max n (length entry)) n) n table

longest_grows : (n : ℕ) (table : List (List ℕ)) (text : List ℕ) → n ≤ longest_from n table text
longest_grows n [] text = omega arith
longest_grows n (e ∷ es) text = elim (cases_Bool (starts_with nat_eq text e)) [
  | inl starts ↦ rw starts (omega (arith, longest_grows (max n (length e)) es text))
  | inr other ↦ rw other (longest_grows n es text)
]

longest_covers : (n : ℕ) (table : List (List ℕ)) (text mark rest : List ℕ) → is_among table mark ≡ true → text ≡ mark ++ rest → length mark ≤ longest_from n table text
longest_covers n [] text mark rest h e = absurd (false≢true h)
longest_covers n (x ∷ xs) text mark rest h e = elim (or_cases (bytes_eq x mark) (is_among xs mark) h) [
  | inl same ↦
      let is : x ≡ mark = bytes_same x mark same in
      let front : take (length mark) text ≡ mark = ap (take (length mark)) e ∙ take_at mark rest _ refl in
      let starts : starts_with nat_eq text x ≡ true = rw is ((bytes_eq-Decides mark (take (length mark) text)).1 (sym front)) in
      rw starts (omega (arith, longest_grows (max n (length x)) xs text, ap length is))
  | inr later ↦ elim (cases_Bool (starts_with nat_eq text x)) [
    | inl starts ↦ rw starts (longest_covers (max n (length x)) xs text mark rest later e)
    | inr other ↦ rw other (longest_covers n xs text mark rest later e)
  ]
]

-- the length that is found is the first one or that of an entry at the front
abbrev Attained : ℕ → List (List ℕ) → List ℕ → ℕ → Type 0
Attained n table text k = (k ≡ n) ⊎ ((is_among table (take k text) ≡ true) × (k ≤ length text))

attained_step : (x : List ℕ) (xs : List (List ℕ)) (text : List ℕ) (m n k : ℕ) → starts_with nat_eq text x ≡ true → (m ≡ n) ⊎ (m ≡ length x)
    → Attained m xs text k → Attained n (x ∷ xs) text k
attained_step x xs text m n k starts from (inr (among, within)) = inr (or_right (bytes_eq x (take k text)) (is_among xs (take k text)) among, within)
attained_step x xs text m n k starts (inl e) (inl is) = inl (is ∙ e)
attained_step x xs text m n k starts (inr e) (inl is) =
    let front : x ≡ take (length x) text = bytes_same x (take (length x) text) starts in
    let len : k ≡ length x = is ∙ e in
    let within : length x ≤ length text = omega (arith, ap length front, length-take (length x) text) in
    inr (or_left (bytes_eq x (take k text)) (is_among xs (take k text)) ((bytes_eq-Decides x (take k text)).1 (front ∙ ap (λ i. take i text) (sym len))), omega (arith, len, within))

attained_later : (x : List ℕ) (xs : List (List ℕ)) (text : List ℕ) (n k : ℕ) → Attained n xs text k → Attained n (x ∷ xs) text k
attained_later x xs text n k (inl is) = inl is
attained_later x xs text n k (inr (among, within)) = inr (or_right (bytes_eq x (take k text)) (is_among xs (take k text)) among, within)

max_cases : (m n : ℕ) → (max m n ≡ m) ⊎ (max m n ≡ n)
max_cases m n = elim (cases_lt m n) [ inl below ↦ inr (omega arith) | inr above ↦ inl (omega arith) ]

attained : (n : ℕ) (table : List (List ℕ)) (text : List ℕ) → Attained n table text (longest_from n table text)
attained n [] text = inl refl
attained n (x ∷ xs) text = elim (cases_Bool (starts_with nat_eq text x)) [
  | inl starts ↦
      let e : longest_from n (x ∷ xs) text ≡ longest_from (max n (length x)) xs text = rw starts refl in
      subst (Attained n (x ∷ xs) text) (sym e) (attained_step x xs text (max n (length x)) n _ starts (max_cases n (length x)) (attained (max n (length x)) xs text))
  | inr other ↦
      let e : longest_from n (x ∷ xs) text ≡ longest_from n xs text = rw other refl in
      subst (Attained n (x ∷ xs) text) (sym e) (attained_later x xs text n _ (attained n xs text))
]

-- the mark that is found is a mark at the front, and no mark there is longer
abbrev pub IsMarkFound : List (List ℕ) → List ℕ → ℕ → Type 0
IsMarkFound table text n = ((0 < n → (is_among table (take n text) ≡ true) × (n ≤ length text)) × ((mark rest : List ℕ) → is_among table mark ≡ true → text ≡ mark ++ rest → length mark ≤ n))

found_among : (table : List (List ℕ)) (text : List ℕ) (n : ℕ) → Attained 0 table text n → 0 < n → (is_among table (take n text) ≡ true) × (n ≤ length text)
found_among table text n (inl is) some = absurd (omega arith)
found_among table text n (inr found) some = found

pub model_mark_found : (text : List ℕ) → IsMarkFound model_marks text (model_mark_len text)
unfolding model_mark_len
model_mark_found text = (found_among model_marks text _ (attained 0 model_marks text), longest_covers 0 model_marks text)

pub data_mark_found : (text : List ℕ) → IsMarkFound data_marks text (data_mark_len text)
unfolding data_mark_len
data_mark_found text = (found_among data_marks text _ (attained 0 data_marks text), longest_covers 0 data_marks text)

-- no mark of data begins as a word does
abbrev pub begins_no_word : List ℕ → Bool
begins_no_word text = not ((((is_ascii_alphanumeric (first text) || first text == 95) || first text == 46) || first text == 43) || first text == 45)

pub data_marks_no_word : (text : List ℕ) → is_among data_marks text ≡ true → begins_no_word text ≡ true
data_marks_no_word text h = passes_among begins_no_word data_marks text refl h

pub mark_no_blank : (text : List ℕ) → is_mark_form text ≡ true → is_blank (first text) ≡ false
mark_no_blank text h = grind arith
