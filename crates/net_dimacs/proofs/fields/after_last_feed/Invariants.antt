use Rattle.std.proofs.Common.{◌≤◌, drop, length}
use Rattle.net_dimacs.specs.Lines.{is_feed, HasNone}
use Rattle.net_dimacs.proofs.fields.after_last_feed.Given as goal

abbrev pub invariant-loop-end : goal.invariant-loop-end
invariant-loop-end l = (l.end ≤ length l.bytes) × HasNone is_feed (drop l.end l.bytes)

abbrev pub decreases-loop-end : goal.decreases-loop-end
decreases-loop-end l = l.end
