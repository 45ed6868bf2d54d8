use Rattle.net_bind.proofs.HeldEntries.{have_sets}
use Rattle.net_bind.proofs.eval_laws.bound_worlds_have_sets.Goals as goal

pub returns : goal.returns
returns c = record { value = have_sets }
