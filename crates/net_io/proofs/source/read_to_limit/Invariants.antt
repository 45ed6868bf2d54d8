use Rattle.std.proofs.Common.{◌≡◌, ◌≤◌, ◌+◌, vec_len}
use Rattle.std.specs.Io.KnownBytes.{Consumes}
use Rattle.net_io.proofs.source.read_to_limit.Given as goal

abbrev pub invariant-loop : goal.invariant-loop
invariant-loop g l = (l.counter ≤ vec_len l.text) × (vec_len l.text ≤ l.limit) × Consumes (g.S.Source.remaining l.initial.source) (g.S.Source.remaining l.source) l.text.items × (g.S.Source.failed l.source ≡ g.S.Source.failed l.initial.source) × (g.S.Source.reads l.source ≤ g.S.Source.reads l.initial.source + l.counter)
