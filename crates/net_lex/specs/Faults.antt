-- The first error of a text (AMPL book, section A.1, for the forms; the limits and the order are
-- those of this profile).
use Rattle.std.specs.Prelude.{◌≡◌, ℕ, ◌+◌, ◌≤◌, ◌<◌, true, false, List, ◌∷◌, ◌++◌, length}
use Rattle.std.specs.Char.{encode_utf8}
use Rattle.std.specs.Str.{IsUtf8, IsValidUpTo}
use Rattle.net_base.specs.declared.error_code.ErrorCode.{ErrorCode}
use Rattle.net_base.specs.declared.error_code.ErrorCode.TheVariants.{BadCharacter, OpenString, OpenComment, NotWhole, NumeralTooLarge, NotUtf8, TextTooLong}
use Rattle.net_base.specs.declared.diagnostic.Fault.{Fault}
use Rattle.net_base.specs.declared.diagnostic.Fault.TheVariants.{OutOfMemory, At}
use Rattle.net_base.specs.Outcomes.{bare}
use Rattle.net_base.specs.declared.diagnostic.Language.{Language}
use Rattle.net_lex.specs.declared.whole.NumFault.TheVariants as num
use Rattle.net_base.specs.declared.diagnostic.Span.{Span}
use Rattle.net_lex.specs.declared.token.Kind.{Kind}
use Rattle.net_lex.specs.declared.token.Kind.TheVariants.{Num, Str}
use Rattle.net_lex.specs.declared.token.Token.{Token}
use Rattle.net_lex.specs.Bytes.{first}
use Rattle.net_lex.specs.Characters.{is_blank, is_quote, is_control}
use Rattle.net_lex.specs.Gaps.{IsGap, IsOpenComment}
use Rattle.net_lex.specs.Limits.{Limits}
use Rattle.net_lex.specs.Numerals.{IsNumFault}
use Rattle.net_lex.specs.Tokens.{IsInside, Allows}
use Rattle.net_lex.specs.Reading.{IsLongest, IsNext, BeginsNoComment, StandIn, IsSound}

-- a string token is not followed by its delimiter, which would continue it as a doubled delimiter
abbrev pub EndsWhole : Kind → (text after : List ℕ) → Type 0
EndsWhole kind text after = kind ≡ Str → first after ≡ first text → ⊥

-- an error in `text` at the position of the next token: its kind, and the range of bytes that it
-- covers
pub data IsErrorCode (limits : Limits) (language : Language) (text : List ℕ) : ErrorCode → ℕ → ℕ → Type 0 where
  -- a character with which no token begins
  no_token : (c : ℕ) (after : List ℕ) → IsUtf8 text → text ≡ encode_utf8 c ++ after → is_quote (first text) ≡ false
      → ((kind : Kind) (more rest : List ℕ) → text ≡ more ++ rest → ¬ Allows language kind more)
      → IsErrorCode limits language text BadCharacter 0 (length (encode_utf8 c))
  -- a control character in a string
  control : (delimiter c : ℕ) (inside after : List ℕ) → is_quote delimiter ≡ true → IsInside delimiter inside → is_control c ≡ true
      → text ≡ delimiter ∷ (inside ++ c ∷ after) → IsErrorCode limits language text BadCharacter (length inside + 1) (length inside + 2)
  -- a string without a closing delimiter
  open_string : (delimiter : ℕ) (inside : List ℕ) → is_quote delimiter ≡ true → IsInside delimiter inside
      → text ≡ delimiter ∷ inside → IsErrorCode limits language text OpenString 0 1
  too_long : (kind : Kind) (word after : List ℕ) → text ≡ word ++ after → IsLongest language kind word after → EndsWhole kind word after
      → limits.token < length word → IsErrorCode limits language text TextTooLong 0 (length word)
  not_whole : (word after : List ℕ) → text ≡ word ++ after → IsLongest language Num word after
      → length word ≤ limits.token → IsNumFault limits.value word num.NotWhole → IsErrorCode limits language text NotWhole 0 (length word)
  too_large : (word after : List ℕ) → text ≡ word ++ after → IsLongest language Num word after
      → length word ≤ limits.token → IsNumFault limits.value word num.TooLarge → IsErrorCode limits language text NumeralTooLarge 0 (length word)

-- an error after the blanks and comments at byte `at`
pub data IsFault (limits : Limits) (language : Language) (at : ℕ) (rest : List ℕ) (error_code : ErrorCode) (span : Span) : Type 0 where
  comment : (gap opened : List ℕ) → rest ≡ gap ++ opened → IsGap gap → IsOpenComment opened
      → error_code ≡ OpenComment → span ≡ record { start = at + length gap; end = at + length gap + 2 } → IsFault limits language at rest error_code span
  token : (gap text : List ℕ) (from to : ℕ) → rest ≡ gap ++ text → IsGap gap → is_blank (first text) ≡ false → BeginsNoComment text → IsErrorCode limits language text error_code from to
      → span ≡ record { start = at + length gap + from; end = at + length gap + to } → IsFault limits language at rest error_code span

-- the next token, which precedes the error, is valid, and if it is a string it is complete
pub record IsSoundNext (limits : Limits) (language : Language) (at : ℕ) (rest : List ℕ) (token : Token) (gap after : List ℕ) : Type 0 where
  pub next : IsNext language at rest token gap after
  pub whole : EndsWhole token.kind token.text after
  pub sound : IsSound limits.token limits.value token.kind token.text

-- the first error of a text in a language with a length limit
pub data IsFirstFault (limits : Limits) (language : Language) (text_limit : ℕ) (text : List ℕ) (error_code : ErrorCode) (span : Span) : Type 0 where
  text_too_long : text_limit < length text → error_code ≡ TextTooLong → span ≡ record { start = 0; end = 0 } → IsFirstFault limits language text_limit text error_code span
  not_utf8 : (good : ℕ) → length text ≤ text_limit → IsValidUpTo text good → error_code ≡ NotUtf8 → span ≡ record { start = good; end = good + 1 }
      → IsFirstFault limits language text_limit text error_code span
  after_tokens : (tokens : List Token) → length text ≤ text_limit → IsUtf8 text
      → StandIn (IsSoundNext limits language) (λ at rest. IsFault limits language at rest error_code span) 0 text tokens
      → IsFirstFault limits language text_limit text error_code span

-- the tokens occur in the text in order, each valid, and Ends holds after them
abbrev pub StandSound : Limits → Language → (ℕ → List ℕ → Type 0) → ℕ → List ℕ → List Token → Type 0
StandSound limits language Ends at rest tokens = StandIn (IsSoundNext limits language) Ends at rest tokens

-- the text begins with a valid token
abbrev pub BeginsWithToken : Limits → Language → List ℕ → Type 0
BeginsWithToken limits language text = (token : Token) × (gap : List ℕ) × (after : List ℕ) × IsSoundNext limits language 0 text token gap after

-- an error after valid tokens; memory can run out only after a first token
abbrev pub IsFaultAfter : Limits → Language → List ℕ → Fault → Type 0
IsFaultAfter limits language text OutOfMemory = BeginsWithToken limits language text
IsFaultAfter limits language text (At f) =
    (f ≡ bare language f.error_code f.at) × (tokens : List Token) × StandSound limits language (λ at rest. IsFault limits language at rest f.error_code f.at) 0 text tokens

-- the span of the error is within the text
abbrev pub HasPlace : List ℕ → Fault → Type 0
HasPlace text OutOfMemory = Unit {0}
HasPlace text (At f) = (f.at.start ≤ f.at.end) × (f.at.end ≤ length text)
