use Rattle.std.proofs.Common.{refl, ap, ◌∙◌}
use Rattle.net_sets.specs.Sets.{place_of}
use Rattle.net_sets.specs.TupleSets.{is_at}
use Rattle.net_sets.proofs.Near.{place_near}
use Rattle.net_sets.proofs.tuple_set.TupleSet.position_with_hint.Goals as goal

pub returns-then-is_at : goal.returns-then-is_at
returns-then-is_at c =
    place_near c.self.inside.tuples c.self.inside.tuples c.args.near c.args.tuple.now c.self.invariant.distinct refl (c.if-is_at.ensures ∙ ap (is_at c.self.inside.tuples c.args.near) c.as_slice.ensures.members)
    ∙ ap (λ ts. place_of ts c.args.tuple.now) c.self.view_is
