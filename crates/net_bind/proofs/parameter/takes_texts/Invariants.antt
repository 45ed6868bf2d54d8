use Rattle.std.specs.Prelude.{◌≡◌, drop, map}
use Rattle.net_tree.specs.View.{phrase_of}
use Rattle.net_bind.specs.BoundParameters.{takes_texts}
use Rattle.net_bind.proofs.parameter.takes_texts.Given as goal

abbrev pub invariant-loop-phrase : goal.invariant-loop-phrase
invariant-loop-phrase l = takes_texts (map phrase_of (drop l.phrase-index l.fn.phrases)) ≡ takes_texts (map phrase_of l.fn.phrases)
