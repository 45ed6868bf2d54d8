use Rattle.std.proofs.Common.{◌≡◌, ◌+◌, take, drop, length}
use Rattle.net_data.specs.Spots.{outside}
use Rattle.net_data.specs.Reading.{items_from}
use Rattle.net_data.proofs.Items.{with_tokens}
use Rattle.net_data.proofs.set_statement.items_len.Given as goal

abbrev pub invariant-tokens : goal.invariant-tokens
invariant-tokens l = record {
  value : items_from outside l.fn.tokens ≡ with_tokens (take l.len l.fn.tokens) (items_from l.spot l.token-iterator);
  left : l.token-iterator ≡ drop l.len l.fn.tokens;
  within : l.len + length l.token-iterator ≡ length l.fn.tokens;
}
