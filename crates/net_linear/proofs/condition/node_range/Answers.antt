use Rattle.net_tree.specs.View.{condition_of}
use Rattle.net_linear.proofs.Ranges.{exact_by, crossed_by}
use Rattle.net_linear.proofs.condition.node_range.Goals as goal

pub returns-clause-exact : goal.returns-clause-exact
returns-clause-exact c = exact_by c.args.env.now c.args.scope.now (condition_of c.args.condition.now) c.range_of.result c.range_of.ensures

pub returns-clause-crossed : goal.returns-clause-crossed
returns-clause-crossed c = crossed_by c.args.env.now c.args.scope.now (condition_of c.args.condition.now) c.range_of.result c.range_of.ensures
