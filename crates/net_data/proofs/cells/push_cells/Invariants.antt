use Rattle.std.proofs.Common.{◌≡◌, ◌++◌}
use Rattle.net_data.specs.Commas.{uncommaed}
use Rattle.net_data.proofs.cells.push_cells.Given as goal

abbrev pub invariant-tokens : goal.invariant-tokens
invariant-tokens l = l.words.items ++ uncommaed l.token-iterator ≡ l.fn.words.items ++ uncommaed l.fn.tokens
