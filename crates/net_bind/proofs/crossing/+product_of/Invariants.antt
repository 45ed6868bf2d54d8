use Rattle.net_tree.specs.View.{tree}
use Rattle.net_tree.specs.Weights.{weight}
use Rattle.net_bind.proofs.crossing.+product_of.Given as goal

abbrev pub decreases-product_of : goal.decreases-product_of
decreases-product_of l = weight (tree l.expr.now)
