use Rattle.std.specs.List.{IsDistinct}
use Rattle.std.proofs.Common.{sym, subst}
use Rattle.net_sets.specs.Sets.{same_tuple}
use Rattle.net_sets.proofs.Stored.{one_distinct}
use Rattle.net_sets.proofs.tuple_store.TupleStore.insert_first.Goals as goal

pub put-requires : goal.put-requires
put-requires c = record {
  shape = c.in_ok-kept.ensures.shape;
  distinct = subst (IsDistinct same_tuple) (sym c.in_ok-kept.ensures.value) (one_distinct c.args.tuple);
}
