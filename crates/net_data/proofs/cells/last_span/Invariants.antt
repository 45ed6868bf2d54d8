use Rattle.std.proofs.Common.{◌≡◌}
use Rattle.net_data.specs.Commas.{uncommaed}
use Rattle.net_data.specs.Reading.{last_span, last_span_or}
use Rattle.net_data.proofs.cells.last_span.Given as goal

abbrev pub invariant-tokens : goal.invariant-tokens
invariant-tokens l = last_span_or l.found (uncommaed l.token-iterator) ≡ last_span (uncommaed l.tokens)
