use Rattle.net_tree.specs.View.{tree}
use Rattle.net_tree.specs.Weights.{weight}
use Rattle.net_bind.proofs.crossing.+is_product.Given as goal

abbrev pub decreases-is_product : goal.decreases-is_product
decreases-is_product l = weight (tree l.expr.now)
