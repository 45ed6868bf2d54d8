use Rattle.std.proofs.Common.{rules, arith}
use Rattle.std.proofs.lemmas.Grind.{common_steps}
use Rattle.net_bind.proofs.Lists.{unsaid_more}
use Rattle.net_bind.proofs.by_name.no_data.Goals as goal

pub loop-index-preserved : goal.loop-index-preserved
loop-index-preserved c = search (rules, unsaid_more c.loop-index._index c.args.names.now c.loop-index.all.items c.loop-index.invariant)

pub returns : goal.returns
returns c = grind (arith, common_steps)
