use Rattle.std.proofs.Common.{rules}
use Rattle.net_tests.proofs.comparison.expect.Goals as goal

pub returns-then-eq-clause-rejects : goal.returns-then-eq-clause-rejects
returns-then-eq-clause-rejects c = search rules

pub returns-clause-passes : goal.returns-clause-passes
returns-clause-passes c = search rules
