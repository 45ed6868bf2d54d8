use Rattle.std.proofs.Common.{[]}
use Rattle.net_names.proofs.Fronts.{front_named}
use Rattle.net_names.proofs.name_laws.front_of_names.Goals as goal

pub returns : goal.returns
returns c = record { value = front_named [] }
