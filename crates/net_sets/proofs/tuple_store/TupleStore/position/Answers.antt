use Rattle.std.proofs.Common.{ap, sym, ◌∙◌, rules}
use Rattle.net_sets.specs.Sets.{place_of}
use Rattle.net_sets.specs.TupleStores.{tuples_in}
use Rattle.net_sets.proofs.Places.{found_by}
use Rattle.net_sets.proofs.tuple_store.TupleStore.position.Goals as goal

pub returns-in-Tuples : goal.returns-in-Tuples
returns-in-Tuples c =
    c.get_index_of.ensures.index
    ∙ (found_by _ c.args.tuple.now (λ x. search rules) c.in-Tuples.set.keys
    ∙ ap (λ ts. place_of ts c.args.tuple.now) (ap tuples_in (sym c.in-Tuples.is) ∙ c.self.view_is))
