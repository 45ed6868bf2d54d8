use Rattle.std.proofs.Common.{refl, ap, ◌∙◌}
use Rattle.net_sets.specs.Sets.{place_of}
use Rattle.net_sets.proofs.Near.{place_near}
use Rattle.net_sets.proofs.tuple_set.TupleSet.position_of.Goals as goal

pub returns-then-is_at : goal.returns-then-is_at
returns-then-is_at c =
    place_near c.self.inside.tuples c.self.inside.tuples c.args.near c.args.members.now c.self.invariant.distinct refl (c.if-is_at.ensures)
    ∙ ap (λ ts. place_of ts c.args.members.now) c.self.view_is
