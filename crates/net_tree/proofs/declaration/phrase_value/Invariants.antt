use Rattle.std.specs.Prelude.{◌≡◌, drop, map}
use Rattle.net_tree.specs.View.{phrase_of}
use Rattle.net_tree.specs.PhraseValues.{phrase_value, is_word}
use Rattle.net_tree.proofs.declaration.phrase_value.Given as goal

abbrev pub invariant-loop-phrase : goal.invariant-loop-phrase
invariant-loop-phrase l = phrase_value (is_word l.fn.word) (map phrase_of (drop l.phrase-index l.fn.phrases)) ≡ phrase_value (is_word l.fn.word) (map phrase_of l.fn.phrases)
