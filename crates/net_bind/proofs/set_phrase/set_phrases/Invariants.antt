use Rattle.std.specs.Prelude.{◌≡◌, drop, map}
use Rattle.net_tree.specs.View.{phrase_of}
use Rattle.net_tree.specs.Role.{role_of}
use Rattle.net_base.specs.Outcomes.{each}
use Rattle.net_bind.specs.SetPhrases.{set_phrases, in_body, set_word}
use Rattle.net_bind.proofs.set_phrase.set_phrases.Given as goal

abbrev pub invariant-loop-phrase : goal.invariant-loop-phrase
invariant-loop-phrase l = each (λ p. in_body l.fn.env (set_word (role_of p.word)) p.body) (map phrase_of (drop l.phrase-index l.fn.all)) l.claims ≡ set_phrases l.fn.env (map phrase_of l.fn.all)
