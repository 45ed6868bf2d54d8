use Rattle.std.specs.Prelude.{◌≡◌, drop, map}
use Rattle.net_tree.specs.View.{phrase_of}
use Rattle.net_expr.specs.Worlds.{reference}
use Rattle.net_bind.specs.Restrictions.{restricted}
use Rattle.net_bind.proofs.restriction.restricted.Given as goal

abbrev pub invariant-loop-phrase : goal.invariant-loop-phrase
invariant-loop-phrase l = restricted l.fn.env l.fn.keyed.row.now.scope (reference l.fn.keyed.name.now l.fn.keyed.keys l.fn.keyed.row.now.key) l.fn.keyed.member.now (map phrase_of (drop l.phrase-index l.fn.phrases)) ≡ restricted l.fn.env l.fn.keyed.row.now.scope (reference l.fn.keyed.name.now l.fn.keyed.keys l.fn.keyed.row.now.key) l.fn.keyed.member.now (map phrase_of l.fn.phrases)
