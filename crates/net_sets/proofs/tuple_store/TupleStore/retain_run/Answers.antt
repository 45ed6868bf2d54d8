use Rattle.std.specs.List.{items_where_true}
use Rattle.std.proofs.Common.{◌≡◌, ap, sym, ◌∙◌, rules}
use Rattle.net_sets.specs.Forms.{AreShort}
use Rattle.net_sets.proofs.Stored.{all_chosen, store_kept}
use Rattle.net_sets.proofs.tuple_store.TupleStore.retain_run.Goals as goal

pub returns-then-are_all_true-clause-ok : goal.returns-then-are_all_true-clause-ok
returns-then-are_all_true-clause-ok c = sym (all_chosen c.args.answers.now c.args.self.now c.requires.size (sym c.are_all_true.ensures ∙ c.if-are_all_true.true))

pub put-requires : goal.put-requires
put-requires c =
    let there : (c.in-Some.set.keys ≡ c.args.self.now) × AreShort 1 c.args.self.now = search rules in
    let left = store_kept 1 c.args.answers.now c.args.self.now c.keep_at.new.set.keys (c.keep_at.ensures ∙ ap (items_where_true c.args.answers.now) there.0) there.1 c.len-distinct.ensures.distinct in
    record { shape = left.0; distinct = left.1 }
