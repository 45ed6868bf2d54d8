use Rattle.std.proofs.Common.{◌≡◌, drop, map}
use Rattle.net_tree.specs.View.{phrase_of}
use Rattle.net_names.specs.Names.{phrases_fault}
use Rattle.net_names.proofs.declaration_names.check_phrases.Given as goal

-- the fault of the phrases that are left is that of all, and the scope is as it was
abbrev pub invariant-loop-phrase : goal.invariant-loop-phrase
invariant-loop-phrase l = record {
  fault : phrases_fault l.fn.scope (map phrase_of (drop l.phrase-index l.phrases)) ≡ phrases_fault l.fn.scope (map phrase_of l.fn.phrases);
  kept : l.scope ≡ l.fn.scope;
}
