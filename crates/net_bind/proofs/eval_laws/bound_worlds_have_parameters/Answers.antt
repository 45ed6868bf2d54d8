use Rattle.net_bind.proofs.HeldEntries.{have_parameters}
use Rattle.net_bind.proofs.eval_laws.bound_worlds_have_parameters.Goals as goal

pub returns : goal.returns
returns c = record { value = have_parameters }
