use Rattle.net_tree.specs.View.{tree}
use Rattle.net_tree.specs.Weights.{weight}
use Rattle.net_names.proofs.iteration.+record_sets.Given as goal

abbrev pub decreases-record_sets : goal.decreases-record_sets
decreases-record_sets l = weight (tree l.set.now)
