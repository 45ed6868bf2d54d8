use Rattle.std.specs.Prelude.{◌≡◌, drop, map}
use Rattle.net_tree.specs.View.{phrase_of}
use Rattle.net_bind.specs.FromData.{are_constant}
use Rattle.net_bind.proofs.constant_phrase.are_constant.Given as goal

abbrev pub invariant-loop-phrase : goal.invariant-loop-phrase
invariant-loop-phrase l = are_constant (map phrase_of (drop l.phrase-index l.fn.phrases)) ≡ are_constant (map phrase_of l.fn.phrases)
