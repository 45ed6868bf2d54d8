use Rattle.std.proofs.Common.{◌≡◌, ◌++◌, drop, map}
use Rattle.net_report.specs.Prices.{node_prices, reduced_cost, reduced_costs}
use Rattle.net_report.proofs.prices.reduced_costs.Given as goal

abbrev pub invariant-loop-arc : goal.invariant-loop-arc
invariant-loop-arc l =
    l.costs.items ++ map (reduced_cost (node_prices l.instance l.potentials)) (drop l.arc-index l.instance.arcs.items) ≡ reduced_costs l.instance l.potentials
