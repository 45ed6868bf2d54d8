use Rattle.std.specs.List.{IsDistinct}
use Rattle.std.proofs.Common.{subst, sym}
use Rattle.net_sets.specs.Sets.{same_tuple}
use Rattle.net_sets.specs.TupleStores.{AreKept, tuples_in}
use Rattle.net_sets.proofs.Stored.{distinct_kept, store_kept}
use Rattle.net_sets.proofs.tuple_store.TupleStore.retain_at.Goals as goal

pub invariant_of-self-in-Singles : goal.invariant_of-self-in-Singles
invariant_of-self-in-Singles c =
    let formed = subst AreKept c.in-Singles.is c.self.invariant.shape in
    let distinct = subst (λ kept. IsDistinct same_tuple (tuples_in kept)) c.in-Singles.is c.self.invariant.distinct in
    let left = store_kept 1 c.args.answers.now c.in-Singles.set.keys c.keep_at.new.set.keys c.keep_at.ensures formed distinct in
    record { shape = left.0; distinct = left.1 }

pub invariant_of-self-in-Pairs : goal.invariant_of-self-in-Pairs
invariant_of-self-in-Pairs c =
    let formed = subst AreKept c.in-Pairs.is c.self.invariant.shape in
    let distinct = subst (λ kept. IsDistinct same_tuple (tuples_in kept)) c.in-Pairs.is c.self.invariant.distinct in
    let left = store_kept 2 c.args.answers.now c.in-Pairs.set.keys c.keep_at-in-Pairs.new.set.keys c.keep_at-in-Pairs.ensures formed distinct in
    record { shape = left.0; distinct = left.1 }

pub invariant_of-self-in-Tuples : goal.invariant_of-self-in-Tuples
invariant_of-self-in-Tuples c =
    let distinct = subst (λ kept. IsDistinct same_tuple (tuples_in kept)) c.in-Tuples.is c.self.invariant.distinct in
    record { shape = tt; distinct = subst (IsDistinct same_tuple) (sym c.keep_at-in-Tuples.ensures) (distinct_kept c.args.answers.now c.in-Tuples.set.keys distinct) }
