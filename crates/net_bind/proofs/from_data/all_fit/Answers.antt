use Rattle.std.specs.Prelude.{drop}
use Rattle.std.specs.List.{AllByRecursion}
use Rattle.std.proofs.Common.{subst, sym, add-one, arith}
use Rattle.std.proofs.lemmas.List.{drop_all}
use Rattle.net_bind.specs.FromData.{Fits}
use Rattle.net_bind.specs.ParameterViews.{parameter_of}
use Rattle.net_bind.proofs.FromData.{next_row}
use Rattle.net_bind.proofs.from_data.all_fit.Goals as goal

pub loop-row-preserved : goal.loop-row-preserved
loop-row-preserved c = λ w rest.
    let P = Fits w (parameter_of c.args.parameter.now) in
    c.loop-row.invariant w (next_row P c.args.table.now c.loop-row.row c.in-Some.member.now c.in-Some.ensures (c.fits.ensures w c.if-not-fits.false)
    (subst (λ k. AllByRecursion (λ row. P row.1) (drop k c.args.table.now)) (add-one c.loop-row.row) rest))

pub returns : goal.returns
returns c = λ w met.
    let P = Fits w (parameter_of c.args.parameter.now) in
    c.loop-row.invariant w (subst (AllByRecursion (λ row. P row.1)) (sym (drop_all c.loop-row.row c.args.table.now (omega (arith, c.loop-row-test.false, c.len-row-end.ensures)))) tt)
