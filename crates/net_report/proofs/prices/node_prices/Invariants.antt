use Rattle.std.proofs.Common.{◌≡◌, ◌++◌, drop}
use Rattle.net_report.specs.Prices.{node_prices}
use Rattle.net_report.proofs.prices.node_prices.Given as goal

abbrev pub invariant-loop-node : goal.invariant-loop-node
invariant-loop-node l = l.prices.items ++ drop l.node (node_prices l.instance l.potentials) ≡ node_prices l.instance l.potentials
