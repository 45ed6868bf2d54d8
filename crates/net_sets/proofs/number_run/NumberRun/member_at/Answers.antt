use Rattle.std.specs.Prelude.{[], ◌∷◌, Some, slice_get}
use Rattle.std.proofs.Common.{ap, sym, ◌∙◌, arith, rules, w64}
use Rattle.std.proofs.lemmas.Int.{to_z-of_z}
use Rattle.std.proofs.lemmas.Option.{slice_get_past}
use mir.Val.{SFits}
use Rattle.net_sets.specs.declared.member.Member.TheVariants.{Number}
use Rattle.net_sets.proofs.Reading.{none_there, some_there}
use Rattle.net_sets.proofs.number_run.NumberRun.member_at.Goals as goal

pub returns-in-None : goal.returns-in-None
returns-in-None c = ap (λ t. slice_get t c.args.component) (none_there c.args.self.now c.args.position c.in-None.ensures)

pub returns-then-component-eq0 : goal.returns-then-component-eq0
returns-then-component-eq0 c =
    let fits : SFits w64 c.in-Some.number = search rules in
    ap (λ x. Some (Number x)) (to_z-of_z w64 c.in-Some.number fits)
    ∙ (ap (λ k. slice_get (Number c.in-Some.number ∷ []) k) (sym c.if-component-eq0.true)
    ∙ ap (λ t. slice_get t c.args.component) (some_there c.args.self.now c.args.position _ c.in-Some.ensures))

pub returns-else-component-eq0 : goal.returns-else-component-eq0
returns-else-component-eq0 c =
    let past = c.if-component-eq0.false in
    sym (slice_get_past (Number c.in-Some.number ∷ []) c.args.component (omega arith))
    ∙ ap (λ t. slice_get t c.args.component) (some_there c.args.self.now c.args.position _ c.in-Some.ensures)
