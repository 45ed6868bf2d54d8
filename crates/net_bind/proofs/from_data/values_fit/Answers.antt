use Rattle.std.specs.List.{AllByRecursion}
use Rattle.std.proofs.Common.{ap, subst}
use Rattle.net_bind.specs.FromData.{Fits}
use Rattle.net_bind.specs.ParameterViews.{parameter_of}
use Rattle.net_bind.proofs.from_data.values_fit.Goals as goal

pub returns : goal.returns
returns c = λ w met.
    subst (AllByRecursion (λ row. Fits w (parameter_of c.args.parameter.now) row.1)) (ap (λ v. v.0) c.values.view_is) (c.all_fit.ensures w met)
