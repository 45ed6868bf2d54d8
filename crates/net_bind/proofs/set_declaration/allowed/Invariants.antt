use Rattle.std.specs.Prelude.{◌≡◌, drop}
use Rattle.net_bind.specs.BoundSets.{allowed}
use Rattle.net_bind.proofs.set_declaration.allowed.Given as goal

abbrev pub invariant-loop-phrase : goal.invariant-loop-phrase
invariant-loop-phrase l = allowed l.fn.name l.fn.set (drop l.phrase-index l.fn.phrases) ≡ allowed l.fn.name l.fn.set l.fn.phrases
