use Rattle.std.specs.Prelude.{[], unwrap_or}
use Rattle.std.proofs.Common.{ap, sym, ◌∙◌}
use Rattle.std.proofs.lemmas.Option.{unwrap_or-slice_get}
use Rattle.net_sets.proofs.tuple_store.TupleStore.tuple_at.Goals as goal

pub returns-in-None : goal.returns-in-None
returns-in-None c = c.new.ensures ∙ ap (λ o. unwrap_or o []) (sym c.in-None.is ∙ c.get.ensures) ∙ unwrap_or-slice_get c.args.self.now c.args.position []

pub returns-in-Some : goal.returns-in-Some
returns-in-Some c = ap (λ o. unwrap_or o []) (sym c.in-Some.is ∙ c.get.ensures) ∙ unwrap_or-slice_get c.args.self.now c.args.position []
