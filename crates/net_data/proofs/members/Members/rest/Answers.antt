use Rattle.net_data.proofs.ItemLemmas.{more_are}
use Rattle.net_data.proofs.members.Members.rest.Goals as goal

pub returns-clause-items : goal.returns-clause-items
returns-clause-items c = let seen = c.self.view_is in rw (c.more_items.ensures, seen) (λ are. more_are _ are)
