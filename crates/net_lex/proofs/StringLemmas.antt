-- The inside of a string, byte by byte.
use Rattle.std.proofs.Common.{◌≡◌, ℕ, ◌+◌, ◌<◌, ◌≤◌, Bool, true, false, cond, ◌==◌, List, [], ◌∷◌, ◌++◌, length, get_or, drop, is_some, unwrap_or, inl, inr, subst, refl, ap, ◌∙◌, arith}
use Rattle.std.proofs.lemmas.List.{drop_more}
use Rattle.net_lex.specs.declared.string.StringEnd.{StringEnd}
use Rattle.net_lex.specs.declared.string.StringEnd.TheVariants.{Closed, Control, Open}
use Rattle.std.proofs.lemmas.Bool.{cases_Bool, false≢true, eqb-true, eqb-false, ne_eqb, eq-eqb}
use Rattle.std.proofs.lemmas.Bool.Decides.{nat_tests}
use Rattle.net_lex.specs.Bytes.{first}
use Rattle.net_lex.specs.Characters.{is_quote, is_control}
use Rattle.net_lex.specs.Tokens.{IsInside, nothing, plain, doubled}
use Rattle.net_lex.specs.Shapes.{delimited_after, string_end}

-- one byte, at an index
pub string_end-drop : (q : ℕ) (delimited : Bool) (at : ℕ) (xs : List ℕ) (i : ℕ) → i < length xs
    → let next = delimited_after q delimited (get_or xs i 0) in
    string_end q delimited at (drop i xs)
    ≡ cond (is_some next) (string_end q (unwrap_or next false) (at + 1) (drop (i + 1) xs)) (cond delimited (Closed at) (Control at))
unfolding string_end
string_end-drop q delimited at xs i h = rw (drop_more xs i 0 h) refl

pub string_end-nil : (q : ℕ) (delimited : Bool) (at : ℕ) → string_end q delimited at [] ≡ cond delimited (Closed at) Open
unfolding string_end
string_end-nil q delimited at = refl

module _ (q : ℕ) (quote : is_quote q ≡ true) where
  -- what is told of the inside of a string from the byte a on
  abbrev pub InsideReported : ℕ → List ℕ → StringEnd → Type 0
  InsideReported a cs (Closed n) = (inside : List ℕ) × (after : List ℕ) × (cs ≡ inside ++ q ∷ after) × IsInside q inside × (n ≡ a + length inside + 1) × (first after ≡ q → ⊥)
  InsideReported a cs (Control n) = (inside : List ℕ) × (c : ℕ) × (after : List ℕ) × (cs ≡ inside ++ c ∷ after) × IsInside q inside × (is_control c ≡ true) × (n ≡ a + length inside)
  InsideReported a cs Open = IsInside q cs

  after_plain : (a c : ℕ) (cs : List ℕ) (r : StringEnd) → (c ≡ q → ⊥) → is_control c ≡ false → InsideReported (a + 1) cs r → InsideReported a (c ∷ cs) r
  after_plain a c cs (Closed n) other free (inside, after, e, is, len, single) = (c ∷ inside, after, ap (λ t. c ∷ t) e, plain other free is, omega arith, single)
  after_plain a c cs (Control n) other free (inside, d, after, e, is, bad, len) = (c ∷ inside, d, after, ap (λ t. c ∷ t) e, plain other free is, bad, omega arith)
  after_plain a c cs Open other free is = plain other free is

  after_doubled : (a : ℕ) (cs : List ℕ) (r : StringEnd) → InsideReported (a + 1 + 1) cs r → InsideReported a (q ∷ q ∷ cs) r
  after_doubled a cs (Closed n) (inside, after, e, is, len, single) = (q ∷ q ∷ inside, after, ap (λ t. q ∷ q ∷ t) e, doubled is, omega arith, single)
  after_doubled a cs (Control n) (inside, d, after, e, is, bad, len) = (q ∷ q ∷ inside, d, after, ap (λ t. q ∷ q ∷ t) e, doubled is, bad, omega arith)
  after_doubled a cs Open is = doubled is

  quote_some : 0 ≡ q → ⊥
  quote_some e = false≢true (ap is_quote e ∙ quote)

  abbrev pub Delimited : Bool → ℕ → List ℕ → StringEnd → Type 0
  Delimited false a cs r = InsideReported a cs r
  Delimited true a cs r = InsideReported a (q ∷ cs) r

  abbrev pub place : Bool → ℕ → ℕ
  place false a = a
  place true a = a + 1

  pub inside_reported : (delimited : Bool) (a : ℕ) (cs : List ℕ) → Delimited delimited a cs (string_end q delimited (place delimited a) cs)
  unfolding string_end
  inside_reported false a [] = nothing
  inside_reported true a [] = ([], [], refl, nothing, omega arith, quote_some)
  inside_reported false a (c ∷ cs) = elim (cases_Bool (c == q)) [
    | inl same ↦ rw (same, eqb-true c q same) (inside_reported true a cs)
    | inr other ↦ elim (cases_Bool (is_control c)) [
      | inl bad ↦ rw (other, bad) ([], c, cs, refl, nothing, bad, omega arith)
      | inr free ↦ rw (other, free) (after_plain a c cs _ (eqb-false c q other) free (inside_reported false (a + 1) cs))
    ]
  ]
  inside_reported true a (c ∷ cs) = elim (cases_Bool (c == q)) [
    | inl same ↦ rw (same, eqb-true c q same) (after_doubled a cs _ (inside_reported false (a + 1 + 1) cs))
    | inr other ↦ rw other ([], c ∷ cs, refl, nothing, omega arith, eqb-false c q other)
  ]

  -- from the inside of a string to its delimiter
  pub inside_passes : (a : ℕ) (inside rest : List ℕ) → IsInside q inside → string_end q false a (inside ++ q ∷ rest) ≡ string_end q true (a + length inside + 1) rest
  unfolding string_end
  inside_passes a [] rest nothing = rw (eq-eqb q q refl) (ap (λ k. string_end q true k rest) (omega arith))
  inside_passes a (c ∷ cs) rest (plain other free is) =
      rw (ne_eqb c q other, free) (inside_passes (a + 1) cs rest is ∙ ap (λ k. string_end q true k rest) (omega arith))
  inside_passes a (_ ∷ _ ∷ cs) rest (doubled is) =
      rw (eq-eqb q q refl) (inside_passes (a + 1 + 1) cs rest is ∙ ap (λ k. string_end q true k rest) (omega arith))

  -- a string closes where no delimiter follows
  pub closes : (a : ℕ) (rest : List ℕ) → (first rest ≡ q → ⊥) → string_end q true a rest ≡ Closed a
  unfolding string_end
  closes a [] single = refl
  closes a (c ∷ cs) single = rw (ne_eqb c q single) refl

  abbrev pub ClosesFrom : ℕ → StringEnd → Type 0
  ClosesFrom a (Closed n) = a ≤ n
  ClosesFrom a (Control n) = Unit {0}
  ClosesFrom a Open = Unit {0}

  closes_later : (a b : ℕ) (r : StringEnd) → a ≤ b → ClosesFrom b r → ClosesFrom a r
  closes_later a b (Closed n) h from = omega arith
  closes_later a b (Control n) h from = tt
  closes_later a b Open h from = tt

  pub closes_from : (delimited : Bool) (a : ℕ) (cs : List ℕ) → ClosesFrom a (string_end q delimited a cs)
  unfolding string_end
  closes_from false a [] = tt
  closes_from true a [] = omega arith
  closes_from true a (c ∷ cs) = elim (cases_Bool (c == q)) [
    | inl same ↦ rw same (closes_later a (a + 1) _ (omega arith) (closes_from false (a + 1) cs))
    | inr other ↦ rw other (omega arith)
  ]
  closes_from false a (c ∷ cs) = elim (cases_Bool (c == q)) [
    | inl same ↦ rw same (closes_later a (a + 1) _ (omega arith) (closes_from true (a + 1) cs))
    | inr other ↦ elim (cases_Bool (is_control c)) [
      | inl bad ↦ rw (other, bad) tt
      | inr free ↦ rw (other, free) (closes_later a (a + 1) _ (omega arith) (closes_from false (a + 1) cs))
    ]
  ]

  control_no_quote : (c : ℕ) → is_control c ≡ true → c ≡ q → ⊥
  control_no_quote c bad e = tests q (subst (λ k. is_control k ≡ true) e bad) quote
    where
      tests : (d : ℕ) → is_control d ≡ true → is_quote d ≡ true → ⊥
      tests d h k = grind (arith, nat_tests)

  -- a control character inside a string is found
  pub control_found : (a c : ℕ) (inside rest : List ℕ) → IsInside q inside → is_control c ≡ true → string_end q false a (inside ++ c ∷ rest) ≡ Control (a + length inside)
  unfolding string_end
  control_found a c [] rest nothing bad = rw (ne_eqb c q (control_no_quote c bad), bad) (ap Control (omega arith))
  control_found a c (d ∷ ds) rest (plain other free is) bad =
      rw (ne_eqb d q other, free) (control_found (a + 1) c ds rest is bad ∙ ap Control (omega arith))
  control_found a c (_ ∷ _ ∷ ds) rest (doubled is) bad =
      rw (eq-eqb q q refl) (control_found (a + 1 + 1) c ds rest is bad ∙ ap Control (omega arith))

  -- and so is the end of a text in a string
  pub open_found : (a : ℕ) (inside : List ℕ) → IsInside q inside → string_end q false a inside ≡ Open
  unfolding string_end
  open_found a [] nothing = refl
  open_found a (d ∷ ds) (plain other free is) = rw (ne_eqb d q other, free) (open_found (a + 1) ds is)
  open_found a (_ ∷ _ ∷ ds) (doubled is) = rw (eq-eqb q q refl) (open_found (a + 1 + 1) ds is)
