use Rattle.std.proofs.Common.{◌≡◌, ◌+◌, length}
use Rattle.std.specs.List.{prefix_len}
use Rattle.net_data.specs.Tests.{is_comma}
use Rattle.net_data.proofs.next_token.commas_len.Given as goal

abbrev pub invariant-tokens : goal.invariant-tokens
invariant-tokens l = record {
  value : prefix_len is_comma l.fn.tokens ≡ l.len + prefix_len is_comma l.token-iterator;
  within : l.len + length l.token-iterator ≡ length l.fn.tokens;
}
