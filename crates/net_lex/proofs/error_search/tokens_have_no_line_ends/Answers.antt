use Rattle.net_lex.proofs.LineEnds.{tokens_stay}
use Rattle.net_lex.proofs.error_search.tokens_have_no_line_ends.Goals as goal

pub returns : goal.returns
returns c = record { value = λ language text tokens h. tokens_stay language 0 text tokens h.read }
