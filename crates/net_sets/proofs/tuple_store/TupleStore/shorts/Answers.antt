use Rattle.std.specs.Prelude.{◌≡◌, ◌≤◌, [], get_or, length}
use Rattle.std.proofs.Common.{subst, ◌∙◌}
use Rattle.net_sets.proofs.Stored.{short_in_turn}
use Rattle.net_sets.proofs.Turns.{copied_in_turn, within}
use Rattle.net_sets.proofs.tuple_store.TupleStore.shorts.Goals as goal

pub loop-position-preserved : goal.loop-position-preserved
loop-position-preserved g c =
    let is : c.in-Some.short ≡ get_or c.args.self.now c.loop-position.position [] = c.in-Some.ensures.0 ∙ c.tuple_at.ensures in
    let inside = within c.args.self.now c.loop-position.position _ c.len-position-end.ensures.value c.loop-position-test.true in (
      c.in_ok-add_short-in-Some.ensures.ok
          ∙ copied_in_turn c.loop-position.all.keys c.args.self.now c.loop-position.position c.in-Some.short _ c.loop-position.invariant.0 is c.len-position-end.ensures.distinct c.len-position-end.ensures.value c.loop-position-test.true,
      short_in_turn _ c.args.self.now c.loop-position.position c.loop-position.invariant.1 (subst (λ t. length t ≤ g.row.N) c.tuple_at.ensures c.in-Some.ensures.1) inside,
    )
