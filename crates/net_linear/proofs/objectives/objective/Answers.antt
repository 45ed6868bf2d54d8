use Rattle.std.proofs.Common.{arith}
use Rattle.std.proofs.lemmas.Grind.{common_steps}
use Rattle.net_tree.specs.View.{tree}
use Rattle.net_linear.proofs.WorthLaws.{worth_by}
use Rattle.net_linear.proofs.objectives.objective.Goals as goal

pub returns-clause-value_of_tree : goal.returns-clause-value_of_tree
returns-clause-value_of_tree c = worth_by c.args.arcs.now c.args.env.now c.args.scope.now (tree c.args.expr.now) c.form_of.result c.form_of.ensures

pub returns-clause-value : goal.returns-clause-value
returns-clause-value c = grind (arith, common_steps)
