-- A text that sound tokens read has no fault.
use Rattle.std.proofs.Common.{◌≡◌, ℕ, ◌+◌, ◌-◌, ◌*◌, ◌^◌, ◌<◌, ◌≤◌, Bool, true, false, List, [], ◌∷◌, ◌++◌, length, drop, Option, Some, None, Ok, Err, sym, ap, ◌∙◌, arith, inl, inr, subst, append_assoc, length-append, ℤ}
use Rattle.std.proofs.lemmas.Bool.{cases_lt, false≢true}
use Rattle.std.proofs.lemmas.Bool.Decides.{nat_tests}
use Rattle.std.proofs.Math.Nat.{le_of_mul-le-mul_right}
use Rattle.net_base.specs.declared.error_code.ErrorCode.{ErrorCode}
use Rattle.net_lex.specs.declared.gap.Place.TheVariants.{Between}
use Rattle.net_base.specs.declared.diagnostic.Language.{Language}
use Rattle.net_base.specs.declared.diagnostic.Language.TheVariants.{Model, Data}
use Rattle.net_base.specs.declared.diagnostic.Span.{Span}
use Rattle.net_lex.specs.declared.string.StringEnd.TheVariants.{Closed, Control, Open}
use Rattle.net_lex.specs.declared.token.Kind.{Kind}
use Rattle.net_lex.specs.declared.token.Kind.TheVariants as kinds
use Rattle.net_lex.specs.declared.token.Token.{Token}
use Rattle.net_lex.specs.declared.whole.NumFault.TheVariants as num
use Rattle.net_lex.specs.Bytes.{first, second}
use Rattle.net_lex.specs.Characters.{is_quote}
use Rattle.net_lex.specs.GapFront.{place_after, after_gap}
use Rattle.net_lex.specs.Numerals.{Parts, SpellsSigned, IsWhole, HasWhole, mantissa, up, down, IsValue, IsNumFault}
use Rattle.net_lex.specs.Tokens.{Allows, IsString, IsInside, plain, doubled, nothing}
use Rattle.net_lex.specs.Reading.{IsLongest, IsNext, StandIn, EndsInGap, IsSound, AreSound}
use Rattle.net_lex.specs.Faults.{EndsWhole, IsErrorCode, no_token, control, open_string, too_long, not_whole, too_large, IsFault, comment, token, StandSound}
use Rattle.net_lex.specs.Limits.{limits}
use Rattle.net_lex.specs.Shapes.{string_end}
use Rattle.net_lex.proofs.FrontReported.{model_strings, data_strings}
use Rattle.std.proofs.lemmas.Str.{length-encode, len_utf8_bounds}
use Rattle.std.specs.Char.{encode_utf8}
use Rattle.net_lex.proofs.FormLemmas.{same_first}
use Rattle.net_lex.proofs.GapPasses.{gap_passes, gap_stops, open_passes, last_passes}
use Rattle.net_lex.proofs.NumeralSigned.{signed_read}
use Rattle.net_lex.proofs.StringLemmas.{inside_passes, closes, control_found, open_found}
use Rattle.net_lex.proofs.Tens.{ten_pos}
use Rattle.net_lex.proofs.Unique.{next_skips, allowed_some, kind_unique, no_gap}
use Rattle.net_lex.proofs.UniqueReading.{ok_same, longest_same, next_same, last_no_next}

-- a numeral has one whole value
pub whole_unique : (m x y a b : ℕ) → IsWhole m x y a → IsWhole m x y b → a ≡ b
whole_unique m x y a b p q = elim (cases_lt x y) [
  | inl low ↦
      let same : a * 10 ^ (y - x) ≡ b * 10 ^ (y - x) = p.lowered low ∙ sym (q.lowered low) in
      let most : a ≤ b = le_of_mul-le-mul_right {k = 10 ^ (y - x)} (omega arith) (ten_pos (y - x)) in
      let least : b ≤ a = le_of_mul-le-mul_right {k = 10 ^ (y - x)} (omega arith) (ten_pos (y - x)) in
      omega arith
  | inr high ↦ p.raised high ∙ sym (q.raised high)
]

parts_of : Option (Parts × List ℕ) → Parts → Parts
parts_of None d = d
parts_of (Some x) d = x.0

pub parts_unique : (text : List ℕ) (n k : Bool) (p q : Parts) → SpellsSigned text n p → SpellsSigned text k q → p ≡ q
unfolding parts_of
parts_unique text n k p q s t = ap (λ r. parts_of r p) (sym (signed_read text n p s).0 ∙ (signed_read text k q t).0)

-- a numeral with a value has no fault
pub value_no_fault : (limit : ℕ) (text : List ℕ) (v : ℤ) → IsValue limit text v → (IsNumFault limit text num.NotWhole → ⊥) × (IsNumFault limit text num.TooLarge → ⊥)
value_no_fault limit text v value = (
  λ (negative, p, spelled, none). none value.size (subst (λ q. HasWhole q value.size) (parts_unique text value.negative negative value.parts p value.spelled spelled) value.whole),
  λ (negative, p, n, spelled, whole, large).
      let same : value.size ≡ n = whole_unique (mantissa p) (up p) (down p) value.size n (subst (λ q. HasWhole q value.size) (parts_unique text value.negative negative value.parts p value.spelled spelled) value.whole) whole in
      omega (arith, value.within),
)

-- strings alone begin with a quotation mark
pub strings_only : (language : Language) (text : List ℕ) → is_quote (first text) ≡ true → (kind : Kind) (more rest : List ℕ) → text ≡ more ++ rest → Allows language kind more → IsString more
strings_only Model text quote kind more rest e allowed = model_strings text quote kind more rest e allowed
strings_only Data text quote kind more rest e allowed = data_strings text (omega (arith, ap length e, length-append more rest, allowed_some Data kind more allowed)) quote kind more rest e allowed

-- insides on both sides of a doubled delimiter are one inside
inside_joined : (q : ℕ) (xs ys : List ℕ) → IsInside q xs → IsInside q ys → IsInside q (xs ++ q ∷ q ∷ ys)
inside_joined q _ ys nothing b = doubled b
inside_joined q (c ∷ cs) ys (plain other free a) b = plain other free (inside_joined q cs ys a b)
inside_joined q (_ ∷ _ ∷ cs) ys (doubled a) b = doubled (inside_joined q cs ys a b)

allows_string : (language : Language) (text : List ℕ) → IsString text → Allows language kinds.Str text
allows_string Model text s = s
allows_string Data text s = s

string_allowed : (language : Language) (text : List ℕ) → Allows language kinds.Str text → IsString text
string_allowed Model text s = s
string_allowed Data text s = s

quote_no_gap : (text : List ℕ) → is_quote (first text) ≡ true → after_gap Between text text ≡ Ok text
quote_no_gap text quote = gap_stops text text (tests (first text) (second text) quote)
  where
    tests : (c d : ℕ) → is_quote c ≡ true → place_after Between c d ≡ None
    tests c d h = grind (arith, nat_tests)

-- two strings with one delimiter, side by side, are one string
strings_joined : (x y : List ℕ) (s : IsString x) (t : IsString y) → t.delimiter ≡ s.delimiter → IsString (x ++ y)
strings_joined x y s t same =
    let q = s.delimiter in
    let other : IsInside q t.inside = subst (λ d. IsInside d t.inside) same t.body in
    let tail : y ≡ q ∷ (t.inside ++ q ∷ []) = t.joined ∙ ap (λ d. d ∷ (t.inside ++ d ∷ [])) same in
    record {
      delimiter = q;
      inside = s.inside ++ q ∷ q ∷ t.inside;
      quote = s.quote;
      body = inside_joined q s.inside t.inside s.body other;
      joined = ap (λ a. a ++ y) s.joined ∙ ap (λ a. q ∷ a) (append_assoc s.inside (q ∷ []) y
          ∙ (ap (λ b. s.inside ++ q ∷ b) tail ∙ sym (append_assoc s.inside (q ∷ q ∷ t.inside) (q ∷ []))));
    }

-- the delimiter of a string that is read does not follow it
pub reads_whole : (language : Language) (at : ℕ) (rest : List ℕ) (t : Token) (gap after : List ℕ) (us : List Token) → IsNext language at rest t gap after
    → StandIn (IsNext language) EndsInGap t.span.end after us → EndsWhole t.kind t.text after
reads_whole language at rest t gap after us next stand is same = follows us stand
  where
    s : IsString t.text
    s = string_allowed language t.text (subst (λ k. Allows language k t.text) is next.longest.allowed)

    begins : first after ≡ s.delimiter
    begins = same ∙ ap first s.joined

    quote : is_quote (first after) ≡ true
    quote = ap is_quote begins ∙ s.quote

    follows : (us : List Token) → StandIn (IsNext language) EndsInGap t.span.end after us → ⊥
    follows [] last =
        let none : after ≡ [] = ok_same _ _ (sym (quote_no_gap after quote) ∙ last_passes after last) in
        false≢true (sym (ap (λ x. is_quote (first x)) none) ∙ quote)
    follows (u ∷ us) (hole, behind, other, tail) =
        let there : after ≡ u.text ++ behind = ok_same _ _ (sym (quote_no_gap after quote) ∙ next_skips language t.span.end after u hole behind other) in
        let r : IsString u.text = strings_only language after quote u.kind u.text behind there other.longest.allowed in
        let delimiter : r.delimiter ≡ s.delimiter = ap first (sym (there ∙ ap (λ x. x ++ behind) r.joined)) ∙ begins in
        let joined = strings_joined t.text u.text s r delimiter in
        let split : t.text ++ after ≡ (t.text ++ u.text) ++ behind = ap (λ x. t.text ++ x) there ∙ sym (append_assoc t.text u.text behind) in
        let most = next.longest.longest kinds.Str (t.text ++ u.text) behind split (allows_string language (t.text ++ u.text) joined) in
        omega (arith, most, length-append t.text u.text, allowed_some language u.kind u.text other.longest.allowed)

-- the string at the front closes behind its token
pub closes_here : (text behind : List ℕ) (word : List ℕ) (q : ℕ) (cs : List ℕ) (quote : is_quote q ≡ true) → text ≡ q ∷ cs → text ≡ word ++ behind → IsString word
    → (first behind ≡ q → ⊥) → (n : ℕ) × (string_end q false 0 cs ≡ Closed n)
closes_here text behind word q cs quote is e s single =
    let split : q ∷ cs ≡ s.delimiter ∷ (s.inside ++ s.delimiter ∷ behind) =
    sym is ∙ (e ∙ (ap (λ t. t ++ behind) s.joined ∙ ap (λ t. s.delimiter ∷ t) (append_assoc s.inside (s.delimiter ∷ []) behind))) in
    let same : s.delimiter ≡ q = sym (ap first split) in
    let rest : cs ≡ s.inside ++ q ∷ behind = ap (drop 1) split ∙ ap (λ d. s.inside ++ d ∷ behind) same in
    let body : IsInside q s.inside = subst (λ d. IsInside d s.inside) same s.body in
    (0 + length s.inside + 1, ap (string_end q false 0) rest ∙ (inside_passes q quote 0 s.inside behind body ∙ closes q quote (0 + length s.inside + 1) behind single))

pub ends_single : (language : Language) (u : Token) (behind text : List ℕ) (q : ℕ) → is_quote (first text) ≡ true → first text ≡ q → text ≡ u.text ++ behind → IsLongest language u.kind u.text behind
    → EndsWhole u.kind u.text behind → first behind ≡ q → ⊥
ends_single language u behind text q quote begins e longest whole same =
    let s = strings_only language text quote u.kind u.text behind e longest.allowed in
    let is : u.kind ≡ kinds.Str = kind_unique language u.kind kinds.Str u.text longest.allowed (allows_string language u.text s) in
    whole is (same ∙ (sym begins ∙ same_first text u.text behind e (allowed_some language u.kind u.text longest.allowed)))

-- where a sound token stands nothing is wrong
pub no_error_code : (language : Language) (text : List ℕ) (d : ErrorCode) (from to : ℕ) → IsErrorCode limits language text d from to → (u : Token) (behind : List ℕ) → text ≡ u.text ++ behind
    → IsLongest language u.kind u.text behind → EndsWhole u.kind u.text behind → IsSound 255 1000000000000 u.kind u.text → ⊥
no_error_code language text _ _ _ (no_token c after utf8 split other none) u behind e longest whole sound = none u.kind u.text behind e longest.allowed
no_error_code language text _ _ _ (control q c inside after quote body bad split) u behind e longest whole sound =
    let begins : first text ≡ q = ap first split in
    let quoted = ap is_quote begins ∙ quote in
    let s = strings_only language text quoted u.kind u.text behind e longest.allowed in
    let (n, closed) = closes_here text behind u.text q (inside ++ c ∷ after) quote split e s (ends_single language u behind text q quoted begins e longest whole) in
    let found = control_found q quote 0 c inside after body bad in
    let both : Closed n ≡ Control (0 + length inside) = sym closed ∙ found in cc
no_error_code language text _ _ _ (open_string q inside quote body split) u behind e longest whole sound =
    let begins : first text ≡ q = ap first split in
    let quoted = ap is_quote begins ∙ quote in
    let s = strings_only language text quoted u.kind u.text behind e longest.allowed in
    let (n, closed) = closes_here text behind u.text q inside quote split e s (ends_single language u behind text q quoted begins e longest whole) in
    let both : Closed n ≡ Open = sym closed ∙ open_found q quote 0 inside body in cc
no_error_code language text _ _ _ (too_long kind word after split other whole_word long) u behind e longest whole sound =
    let same = longest_same language kind u.kind word u.text after behind other longest (sym split ∙ e) in
    omega (arith, ap length same.0, sound.short, long)
no_error_code language text _ _ _ (not_whole word after split other short fault) u behind e longest whole sound =
    let same = longest_same language kinds.Num u.kind word u.text after behind other longest (sym split ∙ e) in
    let (v, value) = sound.value (sym same.2) in
    (value_no_fault 1000000000000 u.text v value).0 (subst (λ w. IsNumFault 1000000000000 w num.NotWhole) same.0 fault)
no_error_code language text _ _ _ (too_large word after split other short fault) u behind e longest whole sound =
    let same = longest_same language kinds.Num u.kind word u.text after behind other longest (sym split ∙ e) in
    let (v, value) = sound.value (sym same.2) in
    (value_no_fault 1000000000000 u.text v value).1 (subst (λ w. IsNumFault 1000000000000 w num.TooLarge) same.0 fault)

error_code_some : (language : Language) (text : List ℕ) (d : ErrorCode) (from to : ℕ) → IsErrorCode limits language text d from to → 0 < length text
error_code_some language text _ _ _ (no_token c after utf8 split other none) = omega (arith, ap length split, length-append (encode_utf8 c) after, length-encode c, (len_utf8_bounds c).0)
error_code_some language text _ _ _ (control q c inside after quote body bad split) = omega (arith, ap length split)
error_code_some language text _ _ _ (open_string q inside quote body split) = omega (arith, ap length split)
error_code_some language text _ _ _ (too_long kind word after split other whole_word long) = omega (arith, ap length split, length-append word after, long)
error_code_some language text _ _ _ (not_whole word after split other short fault) = omega (arith, ap length split, length-append word after, allowed_some language kinds.Num word other.allowed)
error_code_some language text _ _ _ (too_large word after split other short fault) = omega (arith, ap length split, length-append word after, allowed_some language kinds.Num word other.allowed)

-- what a reading finds behind a gap
reading_skips : (language : Language) (at : ℕ) (rest : List ℕ) (us : List Token) → StandIn (IsNext language) EndsInGap at rest us → (x : List ℕ) × (after_gap Between rest rest ≡ Ok x)
reading_skips language at rest [] last = ([], last_passes rest last)
reading_skips language at rest (u ∷ us) (hole, behind, next, tail) = (u.text ++ behind, next_skips language at rest u hole behind next)

no_fault : (language : Language) (at : ℕ) (rest : List ℕ) (d : ErrorCode) (span : Span) → IsFault limits language at rest d span → (us : List Token)
    → StandIn (IsNext language) EndsInGap at rest us → AreSound 255 1000000000000 us → ⊥
no_fault language at rest d span (comment gap opened e g o is place) us stand sound =
    let (x, skips) = reading_skips language at rest us stand in
    let found : after_gap Between rest rest ≡ Err opened = ap (after_gap Between rest) e ∙ (gap_passes gap g rest opened ∙ open_passes opened o) in
    let both : Ok x ≡ Err opened = sym skips ∙ found in cc
no_fault language at rest d span (token gap text from to e g bare no_comment error_code place) us stand sound = here us stand sound
  where
    found : after_gap Between rest rest ≡ Ok text
    found = ap (after_gap Between rest) e ∙ (gap_passes gap g rest text ∙ gap_stops text text (no_gap text bare no_comment))

    here : (us : List Token) → StandIn (IsNext language) EndsInGap at rest us → AreSound 255 1000000000000 us → ⊥
    here [] last sound =
        let none : [] ≡ text = ok_same _ _ (sym (last_passes rest last) ∙ found) in
        omega (arith, ap length none, error_code_some language text d from to error_code)
    here (u ∷ us) (hole, behind, next, tail) (own, others) =
        let same : u.text ++ behind ≡ text = ok_same _ _ (sym (next_skips language at rest u hole behind next) ∙ found) in
        no_error_code language text d from to error_code u behind (sym same) next.longest (reads_whole language at rest u hole behind us next tail) own

-- a text that sound tokens read has no fault behind other tokens
pub no_first_fault : (language : Language) (at : ℕ) (rest : List ℕ) (d : ErrorCode) (span : Span) (ts us : List Token)
    → StandSound limits language (λ at rest. IsFault limits language at rest d span) at rest ts → StandIn (IsNext language) EndsInGap at rest us → AreSound 255 1000000000000 us → ⊥
no_first_fault language at rest d span [] us fault stand sound = no_fault language at rest d span fault us stand sound
no_first_fault language at rest d span (t ∷ ts) [] (gap, after, next, tail) last sound = last_no_next language at rest t gap after last next.next
no_first_fault language at rest d span (t ∷ ts) (u ∷ us) (gap, after, next, tail) (hole, behind, other, more) (own, others) =
    let same = next_same language at rest t u gap hole after behind next.next other in
    let there : StandIn (IsNext language) EndsInGap t.span.end after us =
    subst (λ k. StandIn (IsNext language) EndsInGap k after us) (sym (ap (λ (x : Token). x.span.end) same.0))
    (subst (λ r. StandIn (IsNext language) EndsInGap u.span.end r us) (sym same.1) more) in
    no_first_fault language t.span.end after d span ts us tail there others
