-- From the form at the front of a text to its token, and from a gap and a token to a step.
use Rattle.std.proofs.Common.{◌≡◌, ℕ, suc, ◌+◌, ◌<◌, ◌≤◌, Bool, false, ◌&&◌, ◌||◌, ◌==◌, List, [], ◌∷◌, ◌++◌, length, take, drop, IsUtf8, Option, Some, None, Result, Ok, Err, refl, sym, ap, ◌∙◌, arith, inl, inr, subst, length-append, length-drop, length-take, take-append-drop}
use Rattle.std.proofs.lemmas.Bool.{cases_Bool, true≢false, ne_eqb}
use Rattle.std.proofs.lemmas.Bool.Decides.{nat_tests}
use Rattle.std.proofs.lemmas.Str.{IsUtf8-drop}
use Rattle.std.proofs.lemmas.Slice.Eq.{bytes_eq-Decides}
use Rattle.std.specs.Str.{bytes_eq}
use Rattle.net_base.specs.declared.error_code.ErrorCode.{ErrorCode}
use Rattle.net_base.specs.declared.error_code.ErrorCode.TheVariants.{OpenComment, NotWhole, NumeralTooLarge, TextTooLong}
use Rattle.net_lex.specs.declared.gap.Place.TheVariants.{Between}
use Rattle.net_base.specs.declared.diagnostic.Language.{Language}
use Rattle.net_base.specs.declared.diagnostic.Language.TheVariants.{Model, Data}
use Rattle.net_lex.specs.declared.shape.Shape.{Shape}
use Rattle.net_lex.specs.declared.shape.Shape.TheVariants.{Word, Numeral, Quoted, Mark}
use Rattle.net_lex.specs.declared.shape.BadFront.{BadFront}
use Rattle.net_base.specs.declared.diagnostic.Span.{Span}
use Rattle.net_lex.specs.declared.token.Kind.{Kind}
use Rattle.net_lex.specs.declared.token.Kind.TheVariants as kinds
use Rattle.net_lex.specs.declared.token.Token.{Token}
use Rattle.net_lex.specs.Bytes.{first, second, point, after_sign}
use Rattle.net_lex.specs.Characters.{is_blank, is_quote}
use Rattle.net_lex.specs.Gaps.{IsGap, IsLastGap}
use Rattle.net_lex.specs.GapFront.{place_after, after_gap}
use Rattle.net_lex.specs.Numerals.{Parts, SpellsNumeral, SpellsSigned, unsigned}
use Rattle.net_lex.specs.NumeralFront.{numeral_at}
use Rattle.net_lex.specs.Words.{is_reserved}
use Rattle.net_lex.specs.Shapes.{front}
use Rattle.net_lex.specs.Tokens.{IsString, HasShape, Allows}
use Rattle.net_lex.specs.Reading.{IsLongest, BeginsNoComment}
use Rattle.net_lex.specs.Faults.{EndsWhole, IsErrorCode, too_long, not_whole, too_large, IsFault, comment, token}
use Rattle.net_lex.specs.Limits.{limits}
use Rattle.net_lex.specs.Scanning.{BeginsNoGap, IsNumeralKind, IsKindOf, IsTokenAt, IsErrorCodeAt, IsStep}
use Rattle.net_lex.proofs.GapReading.{Skipped, skipped_is}
use Rattle.net_lex.proofs.NumeralSigned.{signed_spelled, unread_none, unread_rest}
use Rattle.net_lex.proofs.FrontReported.{FrontIs, Rejects, FrontReported, reported_front, first_take}

-- a numeral without a sign is one with an optional sign
pub unsigned_spelled : (text : List ℕ) (p : Parts) → SpellsNumeral text p → SpellsSigned text false p
unsigned_spelled text p n = record { sign = []; body = text; joined = refl; signed = unsigned refl refl; numeral = n }

pub numeral_shape_kind : (language : Language) (word : List ℕ) (found : Result Kind ErrorCode) → HasShape language Numeral word → IsNumeralKind word (Ok kinds.Num) found
    → IsKindOf language word found
numeral_shape_kind Data word found none reported = absurd none
numeral_shape_kind Model word found (p, n) (inl (e, value)) = rw e ((p, n), λ k. value)
numeral_shape_kind Model word found (p, n) (inr (inl (e, fault))) = rw e ((p, n), inl (refl, fault))
numeral_shape_kind Model word found (p, n) (inr (inr (inl (e, fault)))) = rw e ((p, n), inr (refl, fault))
numeral_shape_kind Model word found (p, n) (inr (inr (inr (e, none)))) = absurd (none false p (unsigned_spelled word p n))

-- each form has a kind
pub shape_kind : (language : Language) (shape : Shape) (word : List ℕ) → HasShape language shape word → (kind : Kind) × Allows language kind word
shape_kind Model Word word n = elim (cases_Bool (is_reserved word)) [ inl reserved ↦ (kinds.Key, reserved) | inr free ↦ (kinds.Name, (n, free)) ]
shape_kind Model Numeral word n = (kinds.Num, n)
shape_kind Model Quoted word s = (kinds.Str, s)
shape_kind Model Mark word m = (kinds.Mark, m)
shape_kind Data Numeral word n = absurd n
shape_kind Data Quoted word s = (kinds.Str, s)
shape_kind Data Mark word m = (kinds.Mark, m)
shape_kind Data Word word w = word_kind (numeral_at (after_sign word)) refl
  where
    named : ((negative : Bool) (p : Parts) → ¬ SpellsSigned word negative p) → (kind : Kind) × Allows Data kind word
    named none = elim (cases_Bool (bytes_eq word (point ∷ []))) [
      | inl is ↦ (kinds.Dot, (bytes_eq-Decides word (point ∷ [])).0 is)
      | inr other ↦ (kinds.Name, (w, (λ is. true≢false (sym ((bytes_eq-Decides word (point ∷ [])).1 is) ∙ other)), none))
    ]

    word_kind : (r : Option (Parts × List ℕ)) → numeral_at (after_sign word) ≡ r → (kind : Kind) × Allows Data kind word
    word_kind None e = named (unread_none word e)
    word_kind (Some (p, [])) e = (kinds.Num, (first word == 45, p, signed_spelled word p e))
    word_kind (Some (p, c ∷ cs)) e = named (unread_rest word (c ∷ cs) p e (ne_eqb (suc (length cs)) 0 (λ e. omega arith)))

-- what the front of a text is found to be stands there, and what is wrong there is wrong
pub front_found : (language : Language) (text : List ℕ) (shape : Shape) (n : ℕ) → IsUtf8 text → 0 < length text → front language text ≡ Ok (shape, n) → FrontIs language text shape n
front_found language text shape n utf8 some e = subst (FrontReported language text) e (reported_front language text utf8 some)

pub front_rejected : (language : Language) (text : List ℕ) (stop : BadFront) → IsUtf8 text → 0 < length text → front language text ≡ Err stop → Rejects language text stop
front_rejected language text stop utf8 some e = subst (FrontReported language text) e (reported_front language text utf8 some)

-- what is found at the front is the longest of its kind
pub found_longest : (language : Language) (text : List ℕ) (shape : Shape) (n : ℕ) (kind : Kind) → FrontIs language text shape n → Allows language kind (take n text)
    → IsLongest language kind (take n text) (drop n text)
found_longest language text shape n kind found allowed = record {
  allowed = allowed;
  longest = λ other more rest e allows.
      omega (arith, found.longest other more rest (sym (take-append-drop n text) ∙ e) allows, length-take n text, found.within);
}

pub found_whole : (language : Language) (text : List ℕ) (shape : Shape) (n : ℕ) (kind : Kind) → FrontIs language text shape n → Allows language kind (take n text)
    → EndsWhole kind (take n text) (drop n text)
found_whole language text shape n kind found allowed is same =
    let s : IsString (take n text) = string_of language (take n text) (subst (λ k. Allows language k (take n text)) is allowed) in
    let begins = first_take n text found.some in
    found.whole (ap is_quote (sym begins ∙ ap first s.joined) ∙ s.quote) (same ∙ begins)
  where
    string_of : (language : Language) (word : List ℕ) → Allows language kinds.Str word → IsString word
    string_of Model word s = s
    string_of Data word s = s

-- a fault of a numeral is a defect of its text
pub numeral_error_code : (language : Language) (text : List ℕ) (shape : Shape) (n : ℕ) (error_code : ErrorCode) → FrontIs language text shape n → n ≤ 255 → IsKindOf language (take n text) (Err error_code)
    → IsErrorCode limits language text error_code 0 n
numeral_error_code language text shape n error_code found short (allowed, inl (is, fault)) =
    let len : length (take n text) ≡ n = omega (arith, length-take n text, found.within) in
    rw is (subst (IsErrorCode limits language text NotWhole 0) len
    (not_whole (take n text) (drop n text) (sym (take-append-drop n text)) (found_longest language text shape n kinds.Num found allowed) (omega (arith, len)) fault))
numeral_error_code language text shape n error_code found short (allowed, inr (is, fault)) =
    let len : length (take n text) ≡ n = omega (arith, length-take n text, found.within) in
    rw is (subst (IsErrorCode limits language text NumeralTooLarge 0) len
    (too_large (take n text) (drop n text) (sym (take-append-drop n text)) (found_longest language text shape n kinds.Num found allowed) (omega (arith, len)) fault))

-- a token that is too long
pub long_error_code : (language : Language) (text : List ℕ) (shape : Shape) (n : ℕ) → FrontIs language text shape n → 255 < n → IsErrorCode limits language text TextTooLong 0 n
long_error_code language text shape n found long =
    let len : length (take n text) ≡ n = omega (arith, length-take n text, found.within) in
    let (kind, allowed) = shape_kind language shape (take n text) found.formed in
    subst (IsErrorCode limits language text TextTooLong 0) len
    (too_long kind (take n text) (drop n text) (sym (take-append-drop n text)) (found_longest language text shape n kind found allowed)
    (found_whole language text shape n kind found allowed) (omega (arith, len)))

-- a token at the front
pub found_token : (language : Language) (at : ℕ) (text : List ℕ) (shape : Shape) (n : ℕ) (kind : Kind) → IsUtf8 text → FrontIs language text shape n → n ≤ 255 → IsKindOf language (take n text) (Ok kind)
    → IsTokenAt language at text (record { kind = kind; text = take n text; span = record { start = at; end = at + n } }) (drop n text)
found_token language at text shape n kind utf8 found short (allowed, value) =
    let len : length (take n text) ≡ n = omega (arith, length-take n text, found.within) in
    record {
      some = omega (arith, len, found.some);
      joined = sym (take-append-drop n text);
      span = ap (λ (k : ℕ). let s : Span = record { start = at; end = at + k } in s) (sym len);
      longest = found_longest language text shape n kind found allowed;
      whole = found_whole language text shape n kind found allowed;
      sound = record { short = omega (arith, len); value = value };
      text_after = IsUtf8-drop text n utf8 found.cut;
    }

-- where no gap begins, no comment does
pub no_gap_no_comment : (text : List ℕ) → BeginsNoGap text → BeginsNoComment text
no_gap_no_comment text h = tests (first text) (second text) h
  where
    tests : (c d : ℕ) → place_after Between c d ≡ None → (c == 35 || (c == 47 && d == 42)) ≡ false
    tests c d h = grind (arith, nat_tests)

pub no_gap_no_blank : (text : List ℕ) → BeginsNoGap text → is_blank (first text) ≡ false
no_gap_no_blank text h = tests (first text) (second text) h
  where
    tests : (c d : ℕ) → place_after Between c d ≡ None → is_blank c ≡ false
    tests c d h = grind (arith, nat_tests)

-- a gap of a length, where a text goes on after it
pub record GapBefore (rest : List ℕ) (n : ℕ) : Type 0 where
  pub gap : List ℕ
  pub joined : rest ≡ gap ++ drop n rest
  pub blank : IsGap gap
  pub stops : BeginsNoGap (drop n rest)
  pub len : length gap ≡ n

pub gap_before : (rest : List ℕ) (n : ℕ) → after_gap Between rest rest ≡ Ok (drop n rest) → n < length rest → GapBefore rest n
gap_before rest n e within = reported (skipped_is rest (Ok (drop n rest)) e)
  where
    reported : Skipped rest (Ok (drop n rest)) → GapBefore rest n
    reported (inl (none, last)) = absurd (omega (arith, ap length none, length-drop n rest))
    reported (inr (gap, joined, is, stops, some)) =
        record { gap = gap; joined = joined; blank = is; stops = stops; len = omega (arith, ap length joined, length-append gap (drop n rest), length-drop n rest) }

pub gap_last : (rest : List ℕ) (n : ℕ) → after_gap Between rest rest ≡ Ok (drop n rest) → length rest ≤ n → IsLastGap rest
gap_last rest n e past = reported (skipped_is rest (Ok (drop n rest)) e)
  where
    reported : Skipped rest (Ok (drop n rest)) → IsLastGap rest
    reported (inl (none, last)) = last
    reported (inr (gap, joined, is, stops, some)) = absurd (omega (arith, some, length-drop n rest))

span_at : ℕ → ℕ → Span
span_at start end = record { start = start; end = end }

pub gap_open : (language : Language) (at : ℕ) (rest : List ℕ) (n : ℕ) → after_gap Between rest rest ≡ Err (drop n rest) → n ≤ length rest
    → IsFault limits language at rest OpenComment (record { start = at + n; end = at + n + 2 })
gap_open language at rest n e within = reported (skipped_is rest (Err (drop n rest)) e)
  where
    reported : Skipped rest (Err (drop n rest)) → IsFault limits language at rest OpenComment (record { start = at + n; end = at + n + 2 })
    reported (gap, joined, is, opened) =
        let len : length gap ≡ n = omega (arith, ap length joined, length-append gap (drop n rest), length-drop n rest) in
        comment gap (drop n rest) joined is opened refl (ap (λ (k : ℕ). let s : Span = record { start = at + k; end = at + k + 2 } in s) (sym len))

pub step_token : (language : Language) (at : ℕ) (rest : List ℕ) (n : ℕ) (found : Token) (after : List ℕ) → GapBefore rest n
    → IsTokenAt language (at + n) (drop n rest) found after → IsStep language at rest found after
step_token language at rest n found after g t = (
  g.gap,
  record {
    next = record {
      joined = g.joined ∙ ap (λ x. g.gap ++ x) t.joined;
      blank = g.blank;
      start = ap (λ s. s.start) t.span ∙ ap (λ k. at + k) (sym g.len);
      end = ap (λ s. s.end) t.span ∙ ap (λ k. at + k + length found.text) (sym g.len);
      no_comment = subst BeginsNoComment t.joined (no_gap_no_comment (drop n rest) g.stops);
      longest = t.longest;
    };
    whole = t.whole;
    sound = t.sound;
  },
  omega (arith, ap length g.joined, length-append g.gap (drop n rest), ap length t.joined, length-append found.text after, t.some),
  t.text_after,
)

pub step_fault : (language : Language) (at : ℕ) (rest : List ℕ) (n : ℕ) (error_code : ErrorCode) (span : Span) → GapBefore rest n
    → IsErrorCodeAt language (at + n) (drop n rest) error_code span → IsFault limits language at rest error_code span
step_fault language at rest n error_code span g (from, to, is, place) =
    token g.gap (drop n rest) from to g.joined g.blank (no_gap_no_blank (drop n rest) g.stops) (no_gap_no_comment (drop n rest) g.stops) is
    (place ∙ ap (λ (k : ℕ). let s : Span = record { start = at + k + from; end = at + k + to } in s) (sym g.len))
