use Rattle.std.specs.Prelude.{◌≡◌, drop}
use Rattle.net_bind.specs.SetPhrases.{assigned}
use Rattle.net_bind.proofs.set_phrase.assigned.Given as goal

abbrev pub invariant-loop-phrase : goal.invariant-loop-phrase
invariant-loop-phrase l = assigned (drop l.phrase-index l.fn.all) ≡ assigned l.fn.all
