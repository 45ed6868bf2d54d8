use Rattle.std.proofs.Common.{arith}
use Rattle.net_io.proofs.memory_streams.MemorySinkSink.write.Goals as goal

pub returns-clause-some : goal.returns-clause-some
returns-clause-some c = grind (arith)
