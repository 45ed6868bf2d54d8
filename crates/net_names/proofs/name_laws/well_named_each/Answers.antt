use Rattle.std.proofs.Common.{[]}
use Rattle.net_names.proofs.Fronts.{each_named}
use Rattle.net_names.proofs.name_laws.well_named_each.Goals as goal

pub returns : goal.returns
returns c = record { value = each_named [] }
