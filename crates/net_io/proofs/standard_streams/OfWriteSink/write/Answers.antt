use Rattle.std.proofs.Common.{arith}
use Rattle.net_io.proofs.standard_streams.OfWriteSink.write.Goals as goal

pub returns-in-Ok-clause-some : goal.returns-in-Ok-clause-some
returns-in-Ok-clause-some c = grind (arith)
