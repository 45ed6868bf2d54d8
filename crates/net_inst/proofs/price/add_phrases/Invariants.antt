use Rattle.std.specs.Prelude.{◌≡◌, drop, map}
use Rattle.net_tree.specs.View.{phrase_of}
use Rattle.net_inst.specs.Arcs.{prices_in}
use Rattle.net_inst.proofs.price.add_phrases.Given as goal

abbrev pub invariant-loop-phrase : goal.invariant-loop-phrase
invariant-loop-phrase l = prices_in l.visible.goal.now l.visible.env.now l.scope l.arc (map phrase_of (drop l.phrase-index l.phrases)) l.form ≡ prices_in l.fn.visible.goal.now l.fn.visible.env.now l.fn.scope l.fn.arc (map phrase_of l.fn.phrases) l.fn.form
