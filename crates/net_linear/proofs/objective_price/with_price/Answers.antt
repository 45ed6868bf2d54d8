use Rattle.std.proofs.Common.{arith}
use Rattle.std.proofs.lemmas.Grind.{common_steps}
use Rattle.net_tree.specs.View.{tree}
use Rattle.net_tree.specs.Spans.{span_of}
use Rattle.net_linear.proofs.FormLaws.{priced_by}
use Rattle.net_linear.proofs.objective_price.with_price.Goals as goal

pub returns-clause-value_of_tree : goal.returns-clause-value_of_tree
returns-clause-value_of_tree c = priced_by (span_of (tree c.args.whole.now)) c.args.form c.args.arc c.args.price.now c.priced.result c.priced.ensures

pub returns-clause-value : goal.returns-clause-value
returns-clause-value c = grind (arith, common_steps)
