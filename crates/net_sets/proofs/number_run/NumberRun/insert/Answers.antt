use Rattle.std.specs.Prelude.{◌≡◌, ◌∷◌, []}
use Rattle.std.proofs.Common.{ap, sym, ◌∙◌, rules, w64}
use Rattle.std.proofs.lemmas.Int.{to_z-of_z}
use mir.Val.{SFits, to_z, of_z}
use Rattle.net_sets.specs.declared.member.Member.TheVariants.{Number}
use Rattle.net_sets.proofs.Places.{old_by_place}
use Rattle.net_sets.proofs.number_run.NumberRun.insert.Goals as goal

pub returns-then-is_some-clause-new : goal.returns-then-is_some-clause-new
returns-then-is_some-clause-new c =
    let fits : SFits w64 c.in_ok-number.number = search rules in
    let same : c.args.tuple.now ≡ Number (to_z w64 (of_z w64 c.in_ok-number.number)) ∷ [] = c.in_ok-number.ensures ∙ ap (λ x. Number x ∷ []) (sym (to_z-of_z w64 c.in_ok-number.number fits)) in
    (old_by_place c.args.self.now c.args.tuple.now _ c.position.result same c.position.ensures c.is_some.ensures c.if-is_some.true).0

pub returns-then-is_some-clause-some : goal.returns-then-is_some-clause-some
returns-then-is_some-clause-some c =
    let fits : SFits w64 c.in_ok-number.number = search rules in
    let same : c.args.tuple.now ≡ Number (to_z w64 (of_z w64 c.in_ok-number.number)) ∷ [] = c.in_ok-number.ensures ∙ ap (λ x. Number x ∷ []) (sym (to_z-of_z w64 c.in_ok-number.number fits)) in
    (old_by_place c.args.self.now c.args.tuple.now _ c.position.result same c.position.ensures c.is_some.ensures c.if-is_some.true).1
