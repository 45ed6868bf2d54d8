-- Tokens that rise through a text.
use Rattle.std.specs.Prelude.{◌≡◌, ℕ, ◌+◌, ◌≤◌, List, [], ◌∷◌, ◌++◌, length}
use Rattle.std.proofs.Common.{arith}
use Rattle.net_base.specs.declared.error_code.ErrorCode.{ErrorCode}
use Rattle.net_base.specs.declared.diagnostic.Language.{Language}
use Rattle.net_base.specs.declared.diagnostic.Span.{Span}
use Rattle.net_lex.specs.declared.token.Token.{Token}
use Rattle.net_lex.specs.Reading.{IsNext, StandIn, EndsInGap}
use Rattle.net_lex.specs.Faults as faults
use Rattle.net_lex.specs.Lexing.{AreTokensOf, IsFirstFault}
use Rattle.net_lex.specs.Limits.{limits}
use Rattle.net_lex.proofs.SpanLemmas.{after_within}
use Rattle.std.proofs.lemmas.List.{length-append}
use Rattle.std.proofs.Common.{ap}
use Rattle.net_base.specs.Places.{IsSpanIn}

-- tokens that rise without overlap from one place on up to another
abbrev pub Rise : (from to : ℕ) → List Token → Type 0
Rise from to [] = from ≤ to
Rise from to (t ∷ ts) = (from ≤ t.span.start) × (t.span.start ≤ t.span.end) × Rise t.span.end to ts

pub rise_ends : (from to : ℕ) (ts : List Token) → Rise from to ts → from ≤ to
rise_ends from to [] h = h
rise_ends from to (t ∷ ts) (h, k, m) = omega (arith, h, k, rise_ends t.span.end to ts m)

pub rise_later : (from later to : ℕ) (ts : List Token) → from ≤ later → Rise later to ts → Rise from to ts
rise_later from later to [] e h = omega (arith, e, h)
rise_later from later to (t ∷ ts) e (h, k, m) = (omega (arith, e, h), k, m)

rise_upto : (from to upto : ℕ) (ts : List Token) → to ≤ upto → Rise from to ts → Rise from upto ts
rise_upto from to upto [] e h = omega (arith, e, h)
rise_upto from to upto (t ∷ ts) e (h, k, m) = (h, k, rise_upto t.span.end to upto ts e m)

stand_rise : (language : Language) (at : ℕ) (rest : List ℕ) (ts : List Token) → StandIn (IsNext language) EndsInGap at rest ts → Rise at (at + length rest) ts
stand_rise language at rest [] h = omega arith
stand_rise language at rest (t ∷ ts) (gap, after, next, tail) =
    let room : length rest ≡ length gap + (length t.text + length after) = omega (arith, ap length next.joined, length-append gap (t.text ++ after), length-append t.text after) in
    let more = stand_rise language t.span.end after ts tail in
    (omega (arith, next.start), omega (arith, next.start, next.end), rise_upto t.span.end (t.span.end + length after) (at + length rest) ts (omega (arith, room, next.end)) more)

-- the tokens of a text rise from its start to its end
pub tokens_rise : (language : Language) (text : List ℕ) (ts : List Token) → AreTokensOf language text ts → Rise 0 (length text) ts
tokens_rise language text ts h = rise_upto 0 (0 + length text) (length text) ts (omega arith) (stand_rise language 0 text ts h.read)

-- the first fault of a text lies in it
pub first_fault_lies : (language : Language) (text : List ℕ) (d : ErrorCode) (at : Span) → IsFirstFault language text d at → IsSpanIn (length text) at
first_fault_lies language text d at (faults.text_too_long long is place) =
    record { forward = omega (arith, ap (λ s. s.start) place, ap (λ s. s.end) place); inside = omega (arith, ap (λ s. s.end) place) }
first_fault_lies language text d at (faults.not_utf8 good short valid is place) =
    record { forward = omega (arith, ap (λ s. s.start) place, ap (λ s. s.end) place); inside = omega (arith, ap (λ s. s.end) place, valid.short) }
first_fault_lies language text d at (faults.after_tokens tokens short utf8 stand) =
    let (order, within) = after_within limits language 0 text d at tokens stand in record { forward = order; inside = omega (arith, within) }
