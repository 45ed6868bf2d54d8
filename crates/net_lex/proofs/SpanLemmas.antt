-- The spans of tokens and faults lie in the text.
use Rattle.std.proofs.Common.{◌≡◌, ℕ, ◌+◌, ◌-◌, ◌≤◌, List, [], ◌∷◌, ◌++◌, length, take, drop, sym, ap, ◌∙◌, arith, append_assoc, length-append, take_at, drop_at}
use Rattle.std.specs.Char.{encode_utf8}
use Rattle.std.specs.List.{AllByRecursion}
use Rattle.net_base.specs.declared.error_code.ErrorCode.{ErrorCode}
use Rattle.net_base.specs.declared.diagnostic.Language.{Language}
use Rattle.net_base.specs.declared.diagnostic.Span.{Span}
use Rattle.net_lex.specs.declared.token.Token.{Token}
use Rattle.net_lex.specs.Limits.{Limits}
use Rattle.net_lex.specs.Reading.{IsNext, StandIn, EndsInGap, IsSliceOf}
use Rattle.net_lex.specs.Faults.{IsErrorCode, no_token, control, open_string, too_long, not_whole, too_large, IsFault, comment, token, StandSound}
use Rattle.net_lex.proofs.StandLemmas.{next_room}

pub slices : (language : Language) (text front rest : List ℕ) (at : ℕ) (ts : List Token) → text ≡ front ++ rest → length front ≡ at
    → StandIn (IsNext language) EndsInGap at rest ts → AllByRecursion (IsSliceOf text) ts
slices language text front rest at [] e len stand = tt
slices language text front rest at (t ∷ ts) e len (gap, after, next, tail) =
    let before : text ≡ (front ++ gap) ++ (t.text ++ after) = e ∙ (ap (λ x. front ++ x) next.joined ∙ sym (append_assoc front gap (t.text ++ after))) in
    let start : length (front ++ gap) ≡ t.span.start = omega (arith, length-append front gap, next.start) in
    let size : length t.text ≡ t.span.end - t.span.start = omega (arith, next.start, next.end) in
    let dropped : drop t.span.start text ≡ t.text ++ after = ap (drop t.span.start) before ∙ drop_at (front ++ gap) (t.text ++ after) t.span.start start in
    let through : text ≡ ((front ++ gap) ++ t.text) ++ after = before ∙ sym (append_assoc (front ++ gap) t.text after) in
    let end : length ((front ++ gap) ++ t.text) ≡ t.span.end = omega (arith, length-append (front ++ gap) t.text, start, size, next.end, next.start) in (
      record {
        order = omega (arith, next.start, next.end);
        within = omega (arith, ap length through, length-append ((front ++ gap) ++ t.text) after, end);
        slice = sym (ap (take (t.span.end - t.span.start)) dropped ∙ take_at t.text after (t.span.end - t.span.start) size);
      },
      slices language text ((front ++ gap) ++ t.text) after t.span.end ts through end tail,
    )

error_code_within : (limits : Limits) (language : Language) (text : List ℕ) (d : ErrorCode) (from to : ℕ) → IsErrorCode limits language text d from to → (from ≤ to) × (to ≤ length text)
error_code_within limits language text _ _ _ (no_token c after utf8 split other none) = (omega arith, omega (arith, ap length split, length-append (encode_utf8 c) after))
error_code_within limits language text _ _ _ (control q c inside after quote body bad split) = (omega arith, omega (arith, ap length split, length-append inside (c ∷ after)))
error_code_within limits language text _ _ _ (open_string q inside quote body split) = (omega arith, omega (arith, ap length split))
error_code_within limits language text _ _ _ (too_long kind word after split other whole_word long) = (omega arith, omega (arith, ap length split, length-append word after))
error_code_within limits language text _ _ _ (not_whole word after split other short fault) = (omega arith, omega (arith, ap length split, length-append word after))
error_code_within limits language text _ _ _ (too_large word after split other short fault) = (omega arith, omega (arith, ap length split, length-append word after))

fault_within : (limits : Limits) (language : Language) (at : ℕ) (rest : List ℕ) (d : ErrorCode) (span : Span) → IsFault limits language at rest d span → (span.start ≤ span.end) × (span.end ≤ at + length rest)
fault_within limits language at rest d span (comment gap opened e g o is place) =
    (omega (arith, ap (λ s. s.start) place, ap (λ s. s.end) place), omega (arith, ap (λ s. s.end) place, ap length e, length-append gap opened, ap length o.is))
fault_within limits language at rest d span (token gap text from to e g bare no_comment error_code place) =
    let (order, within) = error_code_within limits language text d from to error_code in
    (omega (arith, ap (λ s. s.start) place, ap (λ s. s.end) place), omega (arith, ap (λ s. s.end) place, ap length e, length-append gap text))

pub after_within : (limits : Limits) (language : Language) (at : ℕ) (rest : List ℕ) (d : ErrorCode) (span : Span) (ts : List Token)
    → StandSound limits language (λ at rest. IsFault limits language at rest d span) at rest ts → (span.start ≤ span.end) × (span.end ≤ at + length rest)
after_within limits language at rest d span [] fault = fault_within limits language at rest d span fault
after_within limits language at rest d span (t ∷ ts) (gap, after, next, tail) =
    let (order, within) = after_within limits language t.span.end after d span ts tail in
    (order, omega (arith, within, next_room language at rest t gap after next.next))
