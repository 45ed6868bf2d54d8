use Rattle.std.specs.Prelude.{nat_eq, slice_set, ◌++◌, List, ℤ, [], ◌∷◌}
use Rattle.std.proofs.Common.{ap, ◌∙◌, arith}
use Rattle.std.proofs.lemmas.Int.{to_z-of_z}
use mir.Syntax.{w128}
use Rattle.indexmap.specs.IndexMap.{insert_entry}
use Rattle.net_linear.specs.Forms.{Products}
use Rattle.net_linear.specs.Storage.{run_from}
use Rattle.net_linear.proofs.Storage.{set_in_run, set_past, set_next, in_run, at_end, past_run}
use Rattle.net_linear.proofs.coefficient_list.set.Goals as goal

pub returns-then-position-len-clause-entries : goal.returns-then-position-len-clause-entries
returns-then-position-len-clause-entries c =
    let place = c.position_from-position in
    let run = c.args.run.now in
    let others = c.args.others.now.entries in
    let is = in_run c.args.first c.args.arc place.result c.len.result (place.ensures.from, place.ensures.before) (omega (arith, c.len.ensures, run.ok.1, run.small)) c.if-position-len.true in
    ap (λ (y : ℤ). run_from c.args.first (slice_set run.items place.result y) ++ others) (to_z-of_z w128 c.args.coefficient c.ranges.coefficient)
    ∙ set_in_run c.args.first run.items others place.result c.args.arc c.args.coefficient is (omega (arith, c.if-position-len.true, c.len.ensures, run.ok.0))

pub returns-in_ok-push-clause-entries : goal.returns-in_ok-push-clause-entries
returns-in_ok-push-clause-entries c =
    let place = c.position_from-position in
    let run = c.args.run.now in
    let others = c.args.others.now.entries in
    let is = at_end c.args.first c.args.arc place.result c.len-else-position-len.result (place.ensures.from, place.ensures.before) (omega (arith, c.len-else-position-len.ensures, run.ok.1, run.small)) c.if-position-len-2.true in
    ap (λ (cs : List ℤ). run_from c.args.first cs ++ others)
    (c.in_ok-push.ensures.items ∙ ap (λ (y : ℤ). run.items ++ y ∷ []) (to_z-of_z w128 c.args.coefficient c.ranges.coefficient))
    ∙ set_next c.args.first run.items others c.args.arc c.args.coefficient (c.is_empty.ensures.0 c.if-is_empty.true) (omega (arith, is, c.len-else-position-len.ensures, run.ok.0))

pub returns-in_ok-insert-clause-entries : goal.returns-in_ok-insert-clause-entries
returns-in_ok-insert-clause-entries c =
    let place = c.position_from-position in
    let run = c.args.run.now in
    let others = c.args.others.now.entries in
    let past = past_run c.args.first c.args.arc place.result _ (place.ensures.from, place.ensures.before) (omega (arith, c.if-position-len.false, c.len.ensures, run.ok.0)) in
    ap (λ (es : Products). run_from c.args.first run.items ++ es)
    (c.in_ok-insert.ensures.entries ∙ ap (λ (y : ℤ). insert_entry nat_eq others c.args.arc y) (to_z-of_z w128 c.args.coefficient c.ranges.coefficient))
    ∙ set_past c.args.first run.items others c.args.arc c.args.coefficient past
