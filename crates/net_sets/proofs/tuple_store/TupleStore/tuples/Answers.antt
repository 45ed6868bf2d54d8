use Rattle.std.proofs.Common.{◌∙◌}
use Rattle.net_sets.proofs.Turns.{copied_in_turn}
use Rattle.net_sets.proofs.tuple_store.TupleStore.tuples.Goals as goal

pub loop-position-preserved : goal.loop-position-preserved
loop-position-preserved c =
    c.in_ok-add.ensures.ok
    ∙ copied_in_turn c.loop-position.all.keys c.args.self.now c.loop-position.position c.tuple_at.result _ c.loop-position.invariant c.tuple_at.ensures c.len-position-end.ensures.distinct c.len-position-end.ensures.value c.loop-position-test.true
