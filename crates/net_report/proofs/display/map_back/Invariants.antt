use Rattle.std.proofs.Common.{◌≡◌, ◌++◌, drop}
use Rattle.net_normal.specs.Links.{mapped_back_by}
use Rattle.net_report.proofs.display.map_back.Given as goal

abbrev pub invariant-loop-arc : goal.invariant-loop-arc
invariant-loop-arc l =
    l.assignment.items ++ mapped_back_by (drop l.arc l.link.numbers.items) (drop l.arc l.link.offsets.items) l.flows ≡ mapped_back_by l.link.numbers.items l.link.offsets.items l.flows
