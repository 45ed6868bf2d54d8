use Rattle.std.proofs.Common.{◌≡◌, ◌+◌, List, length, IsUtf8}
use Rattle.net_lex.specs.Faults.{StandSound}
use Rattle.net_lex.specs.Limits.{limits}
use Rattle.net_lex.specs.declared.token.Token.{Token}
use Rattle.net_lex.proofs.error_search.first_error_in.Given as goal

-- tokens lead to the rest of the text
abbrev pub invariant-tokens : goal.invariant-tokens
invariant-tokens l = record {
  value : (tokens : List Token) × StandSound limits l.language (λ at rest. (at ≡ l.at) × (rest ≡ l.rest)) 0 l.text tokens;
  text : IsUtf8 l.rest;
  room : l.at + length l.rest ≡ length l.text;
}

abbrev pub decreases-tokens : goal.decreases-tokens
decreases-tokens l = length l.rest
