use Rattle.std.proofs.Common.{ap, ◌∙◌, rules}
use Rattle.net_sets.specs.Sets.{place_of}
use Rattle.net_sets.proofs.Places.{found_by}
use Rattle.net_sets.proofs.Stored.{none_of_longer}
use Rattle.net_sets.proofs.short_tuple.position_in.Goals as goal

pub returns-in-None : goal.returns-in-None
returns-in-None g c = none_of_longer _ c.args.set.now.keys c.args.tuple.now c.requires c.in-None.ensures

pub returns-in-Some : goal.returns-in-Some
returns-in-Some g c =
    c.get_index_of.ensures.index
    ∙ (found_by _ c.in-Some.short (λ x. search rules) c.args.set.now.keys
    ∙ ap (place_of c.args.set.now.keys) c.in-Some.ensures.0)
