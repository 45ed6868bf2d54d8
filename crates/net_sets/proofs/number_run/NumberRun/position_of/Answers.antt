use Rattle.std.specs.Prelude.{◌≡◌, true}
use Rattle.std.proofs.Common.{sym, ◌∙◌}
use Rattle.net_sets.specs.Runs.{is_number}
use Rattle.net_sets.proofs.Stored.{none_of_other}
use Rattle.net_sets.proofs.number_run.NumberRun.position_of.Goals as goal

pub returns-in-None : goal.returns-in-None
returns-in-None c =
    none_of_other (λ t. is_number t ≡ true) c.args.self.now c.args.tuple.now c.len-numbers.ensures.numbers (λ e. let no = sym c.in-None.ensures ∙ e in cc)
