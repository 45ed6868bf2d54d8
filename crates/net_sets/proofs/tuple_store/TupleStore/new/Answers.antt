use Rattle.net_sets.proofs.Stored.{nothing_stored}
use Rattle.net_sets.proofs.tuple_store.TupleStore.new.Goals as goal

pub invariant_of-result : goal.invariant_of-result
invariant_of-result c = nothing_stored
