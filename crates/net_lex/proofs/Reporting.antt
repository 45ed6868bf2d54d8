-- What is answered of a text, from what its tokens tell.
use Rattle.std.proofs.Common.{◌≡◌, ℕ, ◌≤◌, ◌<◌, ◌∷◌, sym, subst, Result, Ok, Err, MatchResult, IfOk, IfErr, IsUtf8, List, [], length, refl, arith}
use Rattle.std.specs.List.{AllByRecursion}
use Rattle.std.specs.Result.{IsErr, IsErrAnd}
use Rattle.net_base.specs.declared.diagnostic.Fault.{Fault}
use Rattle.net_base.specs.declared.diagnostic.Fault.TheVariants.{OutOfMemory, At}
use Rattle.net_base.specs.Outcomes.{bare}
use Rattle.net_base.specs.declared.diagnostic.Language.{Language}
use Rattle.net_lex.specs.declared.token.Token.{Token}
use Rattle.net_lex.specs.Limits.{limits, text_limit}
use Rattle.net_lex.specs.Reading.{EndsInGap, IsSliceOf}
use Rattle.net_lex.specs.Faults.{StandSound, IsFaultAfter, HasPlace, BeginsWithToken, after_tokens}
use Rattle.net_lex.specs.Lexing.{AreTokensOf, IsFirstFault, IsRejection, Lexes}
use Rattle.net_lex.proofs.FirstFaults.{read_or_rejected}
use Rattle.net_base.specs.declared.error_code.ErrorCode.{ErrorCode}
use Rattle.net_base.specs.declared.diagnostic.Span.{Span}
use Rattle.net_lex.proofs.FaultReading.{no_first_fault}
use Rattle.net_lex.proofs.SpanLemmas.{slices, after_within}
use Rattle.net_lex.proofs.StandLemmas.{sound_reads, sound_all}
use Rattle.net_lex.proofs.UniqueReading.{reads_same}

-- what the tokens of a text tell, whatever they are kept in
module _ {V : Type 0} (items : V → List Token) (language : Language) (text : List ℕ) where
  abbrev pub Reported : Result V Fault → Type 0
  Reported r = MatchResult r (λ v. StandSound limits language EndsInGap 0 text (items v)) (IsFaultAfter limits language text)

  reported_tokens : (v : V) → length text ≤ text_limit language → IsUtf8 text → StandSound limits language EndsInGap 0 text (items v) → AreTokensOf language text (items v)
  reported_tokens v short utf8 stand = record {
    short = short;
    utf8 = utf8;
    read = sound_reads limits language 0 text (items v) stand;
    sound = sound_all limits language 0 text (items v) stand;
  }

  reported_ok : length text ≤ text_limit language → IsUtf8 text → (r : Result V Fault) → Reported r → IfOk r (λ v. AreTokensOf language text (items v))
  reported_ok short utf8 (Ok v) stand = reported_tokens v short utf8 stand
  reported_ok short utf8 (Err e) fault = tt

  reported_rejected : length text ≤ text_limit language → IsUtf8 text → (r : Result V Fault) → Reported r → IfErr r (IsRejection language text)
  reported_rejected short utf8 (Ok v) stand = tt
  reported_rejected short utf8 (Err OutOfMemory) fault = (short, utf8, fault)
  reported_rejected short utf8 (Err (At f)) (is, tokens, fault) = (is, after_tokens tokens short utf8 fault)

  -- tokens that read the text and are sound are given
  reported_complete : (r : Result V Fault) → Reported r → (tokens : List Token) → AreTokensOf language text tokens → MatchResult r (λ v. items v ≡ tokens) (λ e. e ≡ OutOfMemory)
  reported_complete (Ok v) stand tokens are = reads_same language 0 text (items v) tokens (sound_reads limits language 0 text (items v) stand) are.read
  reported_complete (Err OutOfMemory) fault tokens are = refl
  reported_complete (Err (At f)) (is, ts, fault) tokens are = absurd (no_first_fault language 0 text f.error_code f.at ts tokens fault are.read are.sound)

  reported_place : (r : Result V Fault) → Reported r → MatchResult r (λ v. AllByRecursion (IsSliceOf text) (items v)) (HasPlace text)
  reported_place (Ok v) stand = slices language text [] text 0 (items v) refl refl (sound_reads limits language 0 text (items v) stand)
  reported_place (Err OutOfMemory) fault = tt
  reported_place (Err (At f)) (is, ts, fault) = let (order, within) = after_within limits language 0 text f.error_code f.at ts fault in (order, omega (arith, within))

  pub reported_lexes : length text ≤ text_limit language → IsUtf8 text → (r : Result V Fault) → Reported r → Lexes items language text r
  reported_lexes short utf8 r reported = record {
    ok = reported_ok short utf8 r reported;
    rejected = reported_rejected short utf8 r reported;
    complete = reported_complete r reported;
    place = reported_place r reported;
  }

  -- a text whose first fault is found before a token is made
  pub rejected_at : (d : ErrorCode) (span : Span) → IsFirstFault language text d span → HasPlace text (At (bare language d span)) → Lexes items language text (Err (At (bare language d span)))
  rejected_at d span fault here = record {
    ok = tt;
    rejected = (refl, fault);
    complete = λ tokens are. absurd (read_or_rejected language text tokens d span are fault);
    place = here;
  }

pub reported_stands : (language : Language) (text : List ℕ) (r : Result (List Token) Fault) → Reported {V = List Token} (λ v. v) language text r → IfOk r (λ v. StandSound limits language EndsInGap 0 text v)
reported_stands language text (Ok v) stand = stand
reported_stands language text (Err e) fault = tt

-- the first of several tokens
first_begins : (language : Language) (text : List ℕ) (tokens : List Token) → 0 < length tokens → StandSound limits language EndsInGap 0 text tokens → BeginsWithToken limits language text
first_begins language text [] some stand = absurd (omega (arith, some))
first_begins language text (t ∷ ts) some (gap, after, next, tail) = (t, gap, after, next)

-- memory that runs out after the tokens are found
pub lexes_no_memory : {V : Type 0} (items : V → List Token) (language : Language) (text : List ℕ) (tokens : List Token) (r : Result V Fault) → AreTokensOf language text tokens
    → StandSound limits language EndsInGap 0 text tokens → 0 < length tokens → IsErr r → IsErrAnd r (λ f. f ≡ OutOfMemory) → Lexes items language text r
lexes_no_memory items language text tokens (Ok v) are stand some is e = absurd cc
lexes_no_memory items language text tokens (Err fault) are stand some is e =
    subst (λ (f : Fault). Lexes items language text (Err f)) (sym e) (record {
      ok = tt;
      rejected = (are.short, are.utf8, first_begins language text tokens some stand);
      complete = λ others same. refl;
      place = tt;
    })
