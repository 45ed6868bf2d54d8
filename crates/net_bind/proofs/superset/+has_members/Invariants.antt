use Rattle.std.specs.Prelude.{length}
use Rattle.net_bind.proofs.superset.+has_members.Given as goal

abbrev pub decreases-has_members : goal.decreases-has_members
decreases-has_members l = length l.more.now
