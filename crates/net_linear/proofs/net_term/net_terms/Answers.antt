use Rattle.std.proofs.Common.{arith}
use Rattle.std.proofs.lemmas.Grind.{common_steps}
use Rattle.net_linear.proofs.NetTerms.{net_terms-left}
use Rattle.net_linear.proofs.net_term.net_terms.Goals as goal

pub loop-link-preserved : goal.loop-link-preserved
loop-link-preserved c =
    let e = net_terms-left c.args.links.now c.loop-link.link-index c.link-item.result c.loop-link.so_far c.loop-link-test.true c.link-item.is in cc

pub offset_bounds-links-link-index : goal.offset_bounds-links-link-index
offset_bounds-links-link-index c = grind (arith, common_steps)

pub returns : goal.returns
returns c = grind (arith, common_steps)
