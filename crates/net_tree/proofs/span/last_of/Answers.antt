use Rattle.std.proofs.Common.{ap, sym, arith}
use Rattle.net_tree.specs.Spans.{final, final_of}
use Rattle.net_tree.specs.View.{tree}
use Rattle.net_tree.proofs.Lasts.{last_is, last_lighter, no_link}
use Rattle.net_tree.proofs.span.last_of.Goals as goal

pub returns-in-empty-clause-last : goal.returns-in-empty-clause-last
returns-in-empty-clause-last c = sym (ap (final_of (final (tree c.args.operand.now))) (no_link c.args.links.now c.in-empty.len_below))

pub returns-in-len1-up-clause-last : goal.returns-in-len1-up-clause-last
returns-in-len1-up-clause-last c = last_is c.args.links.now c.link-item.result _ c.in-len1-up.len_at_least c.link-item.is

pub returns-in-len1-up-clause-lighter : goal.returns-in-len1-up-clause-lighter
returns-in-len1-up-clause-lighter c = omega (arith, last_lighter c.args.links.now c.link-item.result c.in-len1-up.len_at_least c.link-item.is)

pub bounds-links-links : goal.bounds-links-links
bounds-links-links c = grind (arith)

pub offset_bounds-links-links : goal.offset_bounds-links-links
offset_bounds-links-links c = grind (arith)

pub overflow_sub-link : goal.overflow_sub-link
overflow_sub-link c = grind (arith)
