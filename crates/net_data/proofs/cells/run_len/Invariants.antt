use Rattle.std.proofs.Common.{◌≡◌, ◌+◌, length}
use Rattle.net_data.specs.Reading.{run_len}
use Rattle.net_data.specs.Tests.{is_of}
use Rattle.net_data.proofs.cells.run_len.Given as goal

abbrev pub invariant-tokens : goal.invariant-tokens
invariant-tokens l = record {
  value : run_len (is_of l.sort) l.fn.tokens ≡ l.len + run_len (is_of l.sort) l.token-iterator;
  within : l.len + length l.token-iterator ≡ length l.fn.tokens;
}
