use Rattle.std.proofs.Common.{rules}
use Rattle.net_io.proofs.memory_streams.counts_down.Goals as goal

pub returns-in-Some-clause-left : goal.returns-in-Some-clause-left
returns-in-Some-clause-left c = search rules
