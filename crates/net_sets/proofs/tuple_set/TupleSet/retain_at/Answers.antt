use Rattle.net_sets.proofs.Stored.{set_kept}
use Rattle.net_sets.proofs.tuple_set.TupleSet.retain_at.Goals as goal

pub invariant_of-self-2 : goal.invariant_of-self-2
invariant_of-self-2 c = set_kept c.args.answers.now c.self.inside.tuples c.retain_at.new.self c.in_ok-retain_at.ensures.ok c.self.invariant
