use Rattle.std.proofs.Common.{sym, subst}
use Rattle.net_bind.specs.BoundParameters.{with_data}
use Rattle.net_bind.specs.FromData.{Answers}
use Rattle.net_bind.specs.ParameterViews.{parameter_of}
use Rattle.net_bind.proofs.SameEverywhere.{nothing}
use Rattle.net_bind.proofs.parameter.bound_over_keys.Goals as goal

pub returns-in-empty : goal.returns-in-empty
returns-in-empty c = λ rows at listed.
    subst (λ ms. Answers (with_data c.args.earlier.now.env c.args.earlier.now.widths.now (parameter_of c.args.parameter.now) ms rows) c.same_everywhere.result)
    (sym (nothing c.args.named_data.now c.in-empty.len_below)) (c.same_everywhere.ensures rows at listed)

pub returns-then-not-has_source : goal.returns-then-not-has_source
returns-then-not-has_source c = λ rows at listed. c.from_data_alone.ensures rows
