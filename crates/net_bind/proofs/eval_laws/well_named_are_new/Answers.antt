use Rattle.net_bind.proofs.NewNames.{new_names}
use Rattle.net_bind.proofs.eval_laws.well_named_are_new.Goals as goal

pub returns : goal.returns
returns c = record { value = new_names }
