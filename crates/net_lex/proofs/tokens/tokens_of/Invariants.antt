use Rattle.std.proofs.Common.{◌≡◌, ◌+◌, length, drop, map, All, IsUtf8}
use Rattle.net_lex.specs.Faults.{StandSound}
use Rattle.net_lex.specs.Limits.{limits}
use Rattle.net_lex.specs.Packed.{unpacked, IsIn}
use Rattle.net_lex.proofs.tokens.tokens_of.Given as goal

abbrev pub invariant-tokens : goal.invariant-tokens
invariant-tokens l = record {
  value : StandSound limits l.language (λ at rest. (at ≡ l.at) × (rest ≡ l.rest)) 0 l.text (map (unpacked l.text) l.tokens.items);
  places : All (IsIn l.text) l.tokens.items;
  text : IsUtf8 l.rest;
  here : l.rest ≡ drop l.at l.text;
  room : l.at + length l.rest ≡ length l.text;
}

abbrev pub decreases-tokens : goal.decreases-tokens
decreases-tokens l = length l.rest
