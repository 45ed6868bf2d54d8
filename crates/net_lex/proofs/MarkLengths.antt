-- How long the mark at the front of model text is, by the first two bytes.
use Rattle.std.proofs.Common.{◌≡◌, ℕ, ◌<◌, ◌≤◌, Bool, true, false, not, ◌||◌, ◌==◌, nat_le, List, [], ◌∷◌, length, length-take, take, refl, sym, ap, ◌∙◌, arith, inl, inr, subst}
use Rattle.std.proofs.lemmas.Bool.{cases_lt, false≢true}
use Rattle.std.proofs.lemmas.Bool.Decides.{nat_tests}
use Rattle.net_lex.specs.Bytes.{first, second}
use Rattle.net_lex.specs.Words.{model_marks, is_among, model_mark_len}
use Rattle.net_lex.proofs.Tables.{passes_among, model_mark_found}

abbrev is_short : List ℕ → Bool
is_short text = nat_le (length text) 2

abbrev is_filled : List ℕ → Bool
is_filled text = nat_le (length text) 1 || not (second text == 0)

abbrev pair_there : List ℕ → Bool
pair_there text = is_among model_marks (first text ∷ second text ∷ [])

abbrev mark_there : List ℕ → Bool
mark_there text = is_among model_marks (first text ∷ [])

at_most_two : (text : List ℕ) → model_mark_len text ≤ 2
at_most_two text = elim (cases_lt 0 (model_mark_len text)) [
  | inl some ↦
      let found = (model_mark_found text).0 some in
      let short : nat_le (length (take (model_mark_len text) text)) 2 ≡ true = passes_among is_short model_marks (take (model_mark_len text) text) refl found.0 in
      let size = length-take (model_mark_len text) text in
      let within = found.1 in
      let most : length (take (model_mark_len text) text) ≤ 2 = grind (arith, nat_tests, short) in
      omega (arith, size, within, most)
  | inr none ↦ omega arith
]

abbrev Found : List ℕ → ℕ → Type 0
Found text n = (is_among model_marks (take n text) ≡ true) × (n ≤ length text)

not_two : (text : List ℕ) → pair_there text ≡ false → model_mark_len text ≡ 2 → ⊥
not_two text none is = two text none (subst (Found text) is ((model_mark_found text).0 (omega (arith, is))))
  where
    two : (text : List ℕ) → pair_there text ≡ false → Found text 2 → ⊥
    two [] none found = absurd (omega (arith, found.1))
    two (a ∷ []) none found = absurd (omega (arith, found.1))
    two (a ∷ b ∷ more) none found = false≢true (sym none ∙ found.0)

not_one : (text : List ℕ) → mark_there text ≡ false → model_mark_len text ≡ 1 → ⊥
not_one text none is = one text none (subst (Found text) is ((model_mark_found text).0 (omega (arith, is))))
  where
    one : (text : List ℕ) → mark_there text ≡ false → Found text 1 → ⊥
    one [] none found = absurd (omega (arith, found.1))
    one (a ∷ more) none found = false≢true (sym none ∙ found.0)

less : (n k : ℕ) → n ≤ k → (n ≡ k → ⊥) → n < k
less n k most other = elim (cases_lt n k) [ inl below ↦ below | inr above ↦ absurd (other (omega arith)) ]

pub pair_len : (text : List ℕ) → pair_there text ≡ true → 2 ≡ model_mark_len text
pair_len [] there = absurd (false≢true there)
pair_len (a ∷ []) there = absurd (false≢true (passes_among is_filled model_marks (a ∷ 0 ∷ []) refl there))
pair_len (a ∷ b ∷ more) there = let long = (model_mark_found (a ∷ b ∷ more)).1 (a ∷ b ∷ []) more there refl in let most = at_most_two (a ∷ b ∷ more) in omega (arith, long, most)

pub mark_len : (text : List ℕ) → pair_there text ≡ false → mark_there text ≡ true → 1 ≡ model_mark_len text
mark_len [] none there = absurd (false≢true there)
mark_len (a ∷ more) none there =
    let long = (model_mark_found (a ∷ more)).1 (a ∷ []) more there refl in
    let small = less (model_mark_len (a ∷ more)) 2 (at_most_two (a ∷ more)) (not_two (a ∷ more) none) in
    omega (arith, long, small)

pub none_len : (text : List ℕ) → pair_there text ≡ false → mark_there text ≡ false → 0 ≡ model_mark_len text
none_len text no_pair no_mark =
    let small = less (model_mark_len text) 2 (at_most_two text) (not_two text no_pair) in
    let smaller = less (model_mark_len text) 1 (omega (arith, small)) (not_one text no_mark) in
    omega (arith, smaller)

-- what the code's looks at the two bytes tell
pub pair_reported : (text : List ℕ) (front next : ℕ) (reported : Bool) → front ≡ first text → next ≡ second text → reported ≡ is_among model_marks (front ∷ next ∷ []) → reported ≡ pair_there text
pair_reported text front next reported is_first is_second is = is ∙ (ap (λ c. is_among model_marks (c ∷ next ∷ [])) is_first ∙ ap (λ c. is_among model_marks (first text ∷ c ∷ [])) is_second)

pub mark_reported : (text : List ℕ) (front : ℕ) (reported : Bool) → front ≡ first text → reported ≡ is_among model_marks (front ∷ []) → reported ≡ mark_there text
mark_reported text front reported is_first is = is ∙ ap (λ c. is_among model_marks (c ∷ [])) is_first
