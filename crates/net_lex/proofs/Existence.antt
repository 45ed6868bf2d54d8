-- A text that is short enough and UTF-8 has tokens or a first error.
use Rattle.std.proofs.Common.{ℕ, ◌≤◌, List, length, Option, Some, None, MatchOption, IsUtf8}
use Rattle.net_base.specs.declared.error_code.ErrorCode.{ErrorCode}
use Rattle.net_base.specs.declared.diagnostic.Language.{Language}
use Rattle.net_base.specs.declared.diagnostic.Span.{Span}
use Rattle.net_lex.specs.declared.token.Token.{Token}
use Rattle.net_lex.specs.Limits.{limits, text_limit}
use Rattle.net_lex.specs.Reading.{EndsInGap}
use Rattle.net_lex.specs.Faults.{IsFault, StandSound, after_tokens}
use Rattle.net_lex.specs.Lexing.{AreTokensOf, IsFirstFault}
use Rattle.net_lex.proofs.StandLemmas.{sound_reads, sound_all}

-- what a walk from token to token shows of a text
abbrev pub Walked : Language → List ℕ → Option (ErrorCode × Span) → Type 0
Walked language text o = MatchOption o
    ((tokens : List Token) × StandSound limits language EndsInGap 0 text tokens)
    (λ e. (tokens : List Token) × StandSound limits language (λ at rest. IsFault limits language at rest e.0 e.1) 0 text tokens)

-- one of the two
abbrev pub Decided : Language → List ℕ → Option (ErrorCode × Span) → Type 0
Decided language text o = MatchOption o ((tokens : List Token) × AreTokensOf language text tokens) (λ e. IsFirstFault language text e.0 e.1)

pub decided : (language : Language) (text : List ℕ) → length text ≤ text_limit language → IsUtf8 text → (o : Option (ErrorCode × Span)) → Walked language text o → Decided language text o
decided language text short utf8 None (tokens, stand) = (
  tokens,
  record {
    short = short;
    utf8 = utf8;
    read = sound_reads limits language 0 text tokens stand;
    sound = sound_all limits language 0 text tokens stand;
  },
)
decided language text short utf8 (Some e) (tokens, stand) = after_tokens tokens short utf8 stand
