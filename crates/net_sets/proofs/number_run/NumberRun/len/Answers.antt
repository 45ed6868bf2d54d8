use Rattle.std.specs.Prelude.{length, pos}
use Rattle.std.specs.List.{IsDistinct}
use Rattle.std.proofs.Common.{ap, sym, subst, ◌∙◌}
use Rattle.net_sets.specs.Forms.{AreShort}
use Rattle.net_sets.specs.Runs.{AreNumbers}
use Rattle.net_sets.specs.Sets.{same_tuple}
use Rattle.net_sets.proofs.Listing.{how_many}
use Rattle.net_sets.proofs.Running.{run_distinct, run_numbers, run_short}
use Rattle.net_sets.proofs.number_run.NumberRun.len.Goals as goal

pub returns-clause-value : goal.returns-clause-value
returns-clause-value c = sym (how_many c.self.inside.first (pos 1) c.self.inside.count) ∙ ap length c.self.view_is

pub returns-clause-distinct : goal.returns-clause-distinct
returns-clause-distinct c = subst (IsDistinct same_tuple) c.self.view_is (run_distinct c.self.inside.first c.self.inside.count)

pub returns-clause-numbers : goal.returns-clause-numbers
returns-clause-numbers c = subst AreNumbers c.self.view_is (run_numbers c.self.inside.first c.self.inside.count)

pub returns-clause-short : goal.returns-clause-short
returns-clause-short c = subst (AreShort 1) c.self.view_is (run_short c.self.inside.first c.self.inside.count)
