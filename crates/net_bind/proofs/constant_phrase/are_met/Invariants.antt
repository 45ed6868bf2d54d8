use Rattle.std.specs.Prelude.{◌≡◌, [], drop, map, Ok}
use Rattle.net_base.specs.declared.diagnostic.Detail.{Detail}
use Rattle.net_tree.specs.View.{phrase_of}
use Rattle.net_expr.specs.Worlds.{World}
use Rattle.net_bind.specs.Restrictions.{restricted}
use Rattle.net_bind.proofs.constant_phrase.are_met.Given as goal

abbrev pub invariant-loop-phrase : goal.invariant-loop-phrase
invariant-loop-phrase l =
    (w : World) (d : Detail) → restricted w [] d l.fn.member (map phrase_of (drop l.phrase-index l.fn.phrases)) ≡ Ok tt → restricted w [] d l.fn.member (map phrase_of l.fn.phrases) ≡ Ok tt
