use Rattle.std.proofs.Common.{◌≡◌, ◌+◌, ◌≤◌, ℕ, length}
use Rattle.net_data.specs.Reading.{statements}
use Rattle.net_data.proofs.Turns.{with_statements}
use Rattle.net_data.proofs.data_parser.statements.Given as goal

abbrev pub invariant-statements : goal.invariant-statements
invariant-statements l = record {
  value : (n : ℕ) → statements (length l.statements.items + n) l.fn.tokens ≡ with_statements l.statements.items (statements n l.unread.tokens);
  count : length l.statements.items + length l.unread.tokens ≤ length l.fn.tokens;
}

abbrev pub decreases-statements : goal.decreases-statements
decreases-statements l = length l.unread.tokens
