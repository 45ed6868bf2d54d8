-- No two lists of tokens read one text.
use Rattle.std.proofs.Common.{◌≡◌, ℕ, suc, ◌<◌, ◌≤◌, Bool, true, false, cond, ◌&&◌, ◌||◌, ◌==◌, List, [], ◌∷◌, ◌++◌, length, Option, Some, None, Ok, refl, sym, ap, ◌∙◌, arith, inl, inr, subst, append-nil, length-append}
use Rattle.std.proofs.lemmas.Str.{length-le-encodes}
use Rattle.std.proofs.lemmas.Bool.{ne_eqb, cases_eq, cases_Bool, and_parts, not-true, false_from_ne_true}
use Rattle.std.proofs.lemmas.Bool.Decides.{nat_tests}
use Rattle.std.proofs.lemmas.Slice.Eq.{bytes_eq-Decides}
use Rattle.std.specs.List.{list_all}
use Rattle.std.specs.Char.{is_ascii_digit}
use Rattle.std.specs.Str.{bytes_eq}
use Rattle.net_lex.specs.declared.gap.Place.TheVariants.{Between}
use Rattle.net_base.specs.declared.diagnostic.Language.{Language}
use Rattle.net_base.specs.declared.diagnostic.Language.TheVariants.{Model, Data}
use Rattle.net_lex.specs.declared.token.Kind.{Kind}
use Rattle.net_lex.specs.declared.token.Kind.TheVariants as kinds
use Rattle.net_lex.specs.declared.token.Token.{Token}
use Rattle.net_lex.specs.Bytes.{first, second, point, after_sign}
use Rattle.net_lex.specs.Characters.{is_blank, is_quote, starts_name, continues_name}
use Rattle.net_lex.specs.GapFront.{place_after, after_gap}
use Rattle.net_lex.specs.Numerals.{Parts, SpellsSigned}
use Rattle.net_lex.specs.NumeralFront.{numeral_at, mantissa_at}
use Rattle.net_lex.specs.Words.{data_marks, is_among, is_reserved}
use Rattle.net_lex.specs.Tokens.{IsWord, Allows}
use Rattle.net_lex.specs.Reading.{BeginsNoComment, IsNext}
use Rattle.net_lex.specs.Scanning.{BeginsNoGap}
use Rattle.net_lex.proofs.FormLemmas.{BeginsNumeral, numeral_begins, numeral_some, numeral_no_name}
use Rattle.net_lex.proofs.FrontReported.{Begins, a_name, a_numeral, a_string, a_mark, model_begins, DataBegins, a_word, a_data_string, a_data_mark, data_begins, mark_some, name_some, string_some, mark_no_name, mark_no_quote, mark_no_digit, mark_pointed, mark_first_small, quote_small, quote_no_word}
use Rattle.net_lex.proofs.GapPasses.{gap_passes, gap_stops}
use Rattle.net_lex.proofs.NumeralSigned.{signed_read, signed_spelled}
use Rattle.net_lex.proofs.Tables.{is_mark_form, model_mark_forms, data_mark_forms, data_marks_no_word, mark_no_blank, reserved_names}
use Rattle.net_lex.proofs.WordReading.{no_word_begins, in_ascii_word, signed_word}

-- a token begins with no blank
name_no_blank : (c : ℕ) → starts_name c ≡ true → is_blank c ≡ false
name_no_blank c h = grind (arith, nat_tests)

digit_no_blank : (c : ℕ) → is_ascii_digit c ≡ true → is_blank c ≡ false
digit_no_blank c h = grind (arith, nat_tests)

quote_no_blank : (c : ℕ) → is_quote c ≡ true → is_blank c ≡ false
quote_no_blank c h = grind (arith, nat_tests)

numeral_no_blank : (text : List ℕ) → BeginsNumeral text → is_blank (first text) ≡ false
numeral_no_blank text (inl digit) = digit_no_blank (first text) digit
numeral_no_blank text (inr (e, digit)) = rw e refl

model_no_blank : (text more : List ℕ) → Begins text more → is_blank (first text) ≡ false
model_no_blank text more (a_name b all) = name_no_blank (first text) b
model_no_blank text more (a_numeral p n b) = numeral_no_blank text b
model_no_blank text more (a_string quote s) = quote_no_blank (first text) quote
model_no_blank text more (a_mark some form same) = ap is_blank same ∙ mark_no_blank more form

blank_small : (c : ℕ) → is_blank c ≡ true → c < 128
blank_small c h = grind (arith, nat_tests)

blank_no_word : (c : ℕ) → is_blank c ≡ true → in_ascii_word c ≡ false
blank_no_word c h = grind (arith, nat_tests)

data_no_blank : (text more rest : List ℕ) → text ≡ more ++ rest → 0 < length text → DataBegins text more → is_blank (first text) ≡ false
data_no_blank text more rest e some (a_word w) = elim (cases_Bool (is_blank (first text))) [
  | inl is ↦ absurd (no_word_begins text more rest e some (blank_small (first text) is) (blank_no_word (first text) is) w)
  | inr other ↦ other
]
data_no_blank text more rest e some (a_data_string quote s) = quote_no_blank (first text) quote
data_no_blank text more rest e some (a_data_mark among same has) = ap is_blank same ∙ mark_no_blank more (data_mark_forms more among)

pub allowed_some : (language : Language) (kind : Kind) (more : List ℕ) → Allows language kind more → 0 < length more
allowed_some Model kind more allowed = begun (model_begins kind more more [] (sym (append-nil more)) allowed)
  where
    begun : Begins more more → 0 < length more
    begun (a_name b all) = name_some more b
    begun (a_numeral p n b) = numeral_some more p n
    begun (a_string quote s) = string_some more s
    begun (a_mark some form same) = some
allowed_some Data kind more allowed = begun (data_begins kind more more [] (sym (append-nil more)) allowed)
  where
    begun : DataBegins more more → 0 < length more
    begun (a_word w) = omega (arith, w.some, length-le-encodes w.characters, ap length w.spelled)
    begun (a_data_string quote s) = string_some more s
    begun (a_data_mark among same has) = has

pub allowed_no_blank : (language : Language) (kind : Kind) (more rest : List ℕ) → Allows language kind more → is_blank (first (more ++ rest)) ≡ false
allowed_no_blank Model kind more rest allowed = model_no_blank (more ++ rest) more (model_begins kind (more ++ rest) more rest refl allowed)
allowed_no_blank Data kind more rest allowed =
    data_no_blank (more ++ rest) more rest refl (omega (arith, length-append more rest, allowed_some Data kind more allowed)) (data_begins kind (more ++ rest) more rest refl allowed)

pub no_gap : (text : List ℕ) → is_blank (first text) ≡ false → BeginsNoComment text → BeginsNoGap text
no_gap text blank_free no_comment = tests (first text) (second text) blank_free no_comment
  where
    tests : (c d : ℕ) → is_blank c ≡ false → (c == 35 || (c == 47 && d == 42)) ≡ false → place_after Between c d ≡ None
    tests c d h k = grind (arith, nat_tests)

-- what is skipped before a token
pub next_skips : (language : Language) (at : ℕ) (rest : List ℕ) (token : Token) (gap after : List ℕ) → IsNext language at rest token gap after
    → after_gap Between rest rest ≡ Ok (token.text ++ after)
next_skips language at rest token gap after next =
    let x = token.text ++ after in
    let stops = no_gap x (allowed_no_blank language token.kind token.text after next.longest.allowed) next.no_comment in
    ap (after_gap Between rest) next.joined ∙ (gap_passes gap next.blank rest x ∙ gap_stops x x stops)

-- the kind of a text
abbrev begins_numeral : List ℕ → Bool
begins_numeral text = is_ascii_digit (first text) || (first text == point && is_ascii_digit (second text))

abbrev model_kind : List ℕ → Kind
model_kind text =
    cond (starts_name (first text)) (cond (is_reserved text) kinds.Key kinds.Name)
    (cond (begins_numeral text) kinds.Num (cond (is_quote (first text)) kinds.Str kinds.Mark))

quote_no_name : (c : ℕ) → is_quote c ≡ true → starts_name c ≡ false
quote_no_name c h = grind (arith, nat_tests)

quote_no_numeral : (c d : ℕ) → is_quote c ≡ true → (is_ascii_digit c || (c == point && is_ascii_digit d)) ≡ false
quote_no_numeral c d h = grind (arith, nat_tests)

numeral_test : (text : List ℕ) → BeginsNumeral text → begins_numeral text ≡ true
numeral_test text (inl digit) = rw digit refl
numeral_test text (inr (e, digit)) = rw (e, digit) refl

second_none : (more : List ℕ) → length more ≤ 1 → second more ≡ 0
second_none [] h = refl
second_none (c ∷ []) h = refl
second_none (c ∷ d ∷ cs) h = absurd (omega arith)

mark_no_numeral : (more : List ℕ) → is_mark_form more ≡ true → begins_numeral more ≡ false
mark_no_numeral more h = elim (cases_eq (first more) point) [
  | inl dot ↦ elim (mark_pointed more h dot) [
    | inl short ↦ rw (mark_no_digit more h, second_none more short) (rw dot refl)
    | inr two ↦ rw (mark_no_digit more h, two) (rw dot refl)
  ]
  | inr other ↦ rw (mark_no_digit more h, ne_eqb (first more) point other) refl
]

model_kind_is : (kind : Kind) (text : List ℕ) → Allows Model kind text → model_kind text ≡ kind
model_kind_is kinds.Name text (n, free) = rw (n.begins, free) refl
model_kind_is kinds.Key text among =
    rw ((and_parts (starts_name (first text)) (list_all continues_name text) (reserved_names text among)).0, among) refl
model_kind_is kinds.Num text (p, n) =
    let begins : BeginsNumeral text = subst BeginsNumeral (append-nil text) (numeral_begins text [] p n) in
    rw (numeral_no_name text begins, numeral_test text begins) refl
model_kind_is kinds.Str text s =
    let quote : is_quote (first text) ≡ true = ap is_quote (ap first s.joined) ∙ s.quote in
    rw (quote_no_name (first text) quote, quote_no_numeral (first text) (second text) quote, quote) refl
model_kind_is kinds.Mark text among =
    let form = model_mark_forms text among in
    rw (mark_no_name text form, mark_no_numeral text form, mark_no_quote text form) refl
model_kind_is kinds.Dot text none = absurd none

abbrev is_whole : Option (Parts × List ℕ) → Bool
is_whole None = false
is_whole (Some x) = length x.1 == 0

abbrev data_kind : List ℕ → Kind
data_kind text =
    cond (is_quote (first text)) kinds.Str
    (cond (is_among data_marks text) kinds.Mark
    (cond (bytes_eq text (point ∷ [])) kinds.Dot
    (cond (is_whole (numeral_at (after_sign text))) kinds.Num kinds.Name)))

word_some : (text : List ℕ) → IsWord text → 0 < length text
word_some text w = omega (arith, w.some, length-le-encodes w.characters, ap length w.spelled)

word_no_quote : (text : List ℕ) → IsWord text → is_quote (first text) ≡ false
word_no_quote text w = elim (cases_Bool (is_quote (first text))) [
  | inl quote ↦ absurd (no_word_begins text text [] (sym (append-nil text)) (word_some text w) (quote_small (first text) quote) (quote_no_word (first text) quote) w)
  | inr other ↦ other
]

word_no_mark : (text : List ℕ) → IsWord text → is_among data_marks text ≡ false
word_no_mark text w = elim (cases_Bool (is_among data_marks text)) [
  | inl among ↦
      let form = data_mark_forms text among in
      absurd (no_word_begins text text [] (sym (append-nil text)) (word_some text w) (mark_first_small text (mark_some text form) form)
      (not-true (in_ascii_word (first text)) (data_marks_no_word text among)) w)
  | inr other ↦ other
]

dot_no_numeral : numeral_at (after_sign (point ∷ [])) ≡ None
unfolding numeral_at mantissa_at
dot_no_numeral = refl

not_whole_numeral : (text : List ℕ) → ((negative : Bool) (p : Parts) → ¬ SpellsSigned text negative p) → (r : Option (Parts × List ℕ)) → numeral_at (after_sign text) ≡ r → is_whole r ≡ false
not_whole_numeral text none None e = refl
not_whole_numeral text none (Some (p, [])) e = absurd (none _ p (signed_spelled text p e))
not_whole_numeral text none (Some (p, c ∷ cs)) e = ne_eqb (suc (length cs)) 0 (λ k. omega arith)

data_kind_is : (kind : Kind) (text : List ℕ) → Allows Data kind text → data_kind text ≡ kind
data_kind_is kinds.Name text (w, no_dot, none) =
    rw (
      word_no_quote text w,
      word_no_mark text w,
      false_from_ne_true (bytes_eq text (point ∷ [])) (λ h. no_dot ((bytes_eq-Decides text (point ∷ [])).0 h)),
      not_whole_numeral text none (numeral_at (after_sign text)) refl,
    ) refl
data_kind_is kinds.Num text (negative, p, s) =
    let w = signed_word text negative p s in
    let read = (signed_read text negative p s).0 in
    let no_dot : bytes_eq text (point ∷ []) ≡ false = false_from_ne_true (bytes_eq text (point ∷ [])) (λ h.
    let is : text ≡ point ∷ [] = (bytes_eq-Decides text (point ∷ [])).0 h in
    let gone : None ≡ Some (p, []) = sym (ap (λ t. numeral_at (after_sign t)) is ∙ dot_no_numeral) ∙ read in cc) in
    rw (word_no_quote text w, word_no_mark text w, no_dot, read) refl
data_kind_is kinds.Str text s = rw (ap first s.joined, s.quote) refl
data_kind_is kinds.Mark text among = rw (mark_no_quote text (data_mark_forms text among), among) refl
data_kind_is kinds.Dot text is = rw is refl
data_kind_is kinds.Key text none = absurd none

-- a text has one kind
pub kind_unique : (language : Language) (k l : Kind) (text : List ℕ) → Allows language k text → Allows language l text → k ≡ l
kind_unique Model k l text a b = sym (model_kind_is k text a) ∙ model_kind_is l text b
kind_unique Data k l text a b = sym (data_kind_is k text a) ∙ data_kind_is l text b
