use Rattle.std.specs.Prelude.{◌≡◌, length}
use Rattle.std.specs.Vec.Iter.{into_iter_items, into_iter_len}
use Rattle.net_bind.specs.SetPhrases.{assigned}
use Rattle.net_bind.proofs.set_phrase.into_assigned.Given as goal

abbrev pub invariant-loop-phrase : goal.invariant-loop-phrase
invariant-loop-phrase l = record {
  same : assigned (into_iter_items l.phrase-iterator) ≡ assigned l.fn.all;
  counted : into_iter_len l.phrase-iterator ≡ length (into_iter_items l.phrase-iterator);
}
