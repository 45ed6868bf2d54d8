use Rattle.std.proofs.Common.{◌≤◌, ◌+◌, ◌-◌}
use Rattle.net_dimacs.specs.Limits.{text_limit}
use Rattle.net_driver.proofs.Pieces.{Fed}
use Rattle.net_driver.proofs.problem_source.read_pieces.Given as goal

abbrev pub invariant-loop-length : goal.invariant-loop-length
invariant-loop-length g l = Fed (g.S.Source.remaining l.initial.source) (g.S.Source.remaining l.source) (g.S.Source.failed l.initial.source) (g.S.Source.failed l.source) l.reading l.length
    × (g.S.Source.reads l.source ≤ g.S.Source.reads l.initial.source + l.length)

abbrev pub decreases-loop-length : goal.decreases-loop-length
decreases-loop-length g l = text_limit + 1 - l.length
