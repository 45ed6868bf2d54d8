use Rattle.net_bind.proofs.ValuesAt.{are_valued}
use Rattle.net_bind.proofs.eval_laws.rows_come_before_sources.Goals as goal

pub returns : goal.returns
returns c = record { value = are_valued }
