use Rattle.net_lex.proofs.UniqueReading.{reads_same}
use Rattle.net_lex.proofs.error_search.one_reading.Goals as goal

pub returns : goal.returns
returns c = record { value = λ language text tokens others. reads_same language 0 text tokens others }
