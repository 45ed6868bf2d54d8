use Rattle.std.proofs.Common.{◌≡◌, ◌+◌, length}
use Rattle.net_data.specs.Rows.{inside_len}
use Rattle.net_data.proofs.members.inside_len.Given as goal

abbrev pub invariant-tokens : goal.invariant-tokens
invariant-tokens l = record {
  value : inside_len l.fn.tokens ≡ l.len + inside_len l.token-iterator;
  within : l.len + length l.token-iterator ≡ length l.fn.tokens;
}
