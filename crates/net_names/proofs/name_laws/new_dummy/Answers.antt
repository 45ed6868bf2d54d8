use Rattle.net_names.proofs.Fronts.{new_in_both}
use Rattle.net_names.proofs.name_laws.new_dummy.Goals as goal

pub returns : goal.returns
returns c = record { value = new_in_both }
