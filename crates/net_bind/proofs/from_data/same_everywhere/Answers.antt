use Rattle.std.specs.Prelude.{◌≡◌, true, Ok}
use Rattle.std.specs.Option.{IfSome}
use Rattle.std.proofs.Common.{ap, sym, subst, ◌∙◌, arith}
use Rattle.net_base.specs.Outcomes.{Outcome}
use Rattle.net_sets.specs.KeyValues.{same_for}
use Rattle.net_expr.specs.declared.world.Entry.{Entry}
use Rattle.net_expr.specs.declared.world.Entry.TheVariants.{Parameter}
use Rattle.net_bind.specs.FromData.{are_constant, IsSame}
use Rattle.net_bind.specs.ParameterViews.{parameter_of}
use Rattle.net_bind.proofs.SameEverywhere.{given_everywhere}
use Rattle.net_bind.proofs.from_data.same_everywhere.Goals as goal

pub returns : goal.returns
returns c = λ rows at listed.
    let w = c.args.earlier.now.env in
    let p = parameter_of c.args.parameter.now in
    let m = c.in-Some.member in
    let constant : are_constant p.phrases ≡ true = sym c.are_constant.ensures ∙ c.if-not-are_constant.false in
    let same : IsSame w p.phrases m = subst (λ o. IfSome o (IsSame w p.phrases)) c.in-Some.is c.same_value.ensures in
    let entry : c.in_ok-parameter_entry.field-0 ≡ Parameter p.keys p.index (same_for m p.index) = grind (arith, c.in_ok-parameter_entry.ensures, c.same-values.ensures, c.in_ok-copied.ensures) in
    given_everywhere w c.args.earlier.now.widths.now p rows m constant same (c.fits.ensures w c.if-not-fits.false) at listed
    ∙ ap (λ (e : Entry). let o : Outcome Entry = Ok e in o) (sym entry)
