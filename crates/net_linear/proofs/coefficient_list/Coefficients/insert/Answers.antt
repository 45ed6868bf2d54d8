use Rattle.std.specs.Prelude.{◌++◌, nat_eq, ℤ}
use Rattle.std.proofs.Common.{ap, ◌∙◌}
use Rattle.std.proofs.lemmas.Int.{to_z-of_z}
use mir.Syntax.{w128}
use Rattle.indexmap.specs.IndexMap.{insert_entry}
use Rattle.net_linear.specs.Forms.{Products}
use Rattle.net_linear.specs.Storage.{run_from}
use Rattle.net_linear.proofs.Storage.{begins, has_room}
use Rattle.net_linear.proofs.coefficient_list.Coefficients.insert.Goals as goal

pub returns : goal.returns
returns c =
    let inside = c.self.inside in
    let held = run_from c.first_arc-self-inside.result inside.run.items ++ inside.others.entries in
    c.in_ok-set.ensures.entries
    ∙ ap (λ (y : ℤ). insert_entry nat_eq held c.args.arc y) (to_z-of_z w128 c.args.coefficient c.ranges.coefficient)
    ∙ ap (λ (ps : Products). insert_entry nat_eq ps c.args.arc c.args.coefficient)
    (begins c.is_empty.result inside.first c.args.arc _ inside.run.items inside.others.entries c.args.self.now c.first_arc-self-inside.ensures c.is_empty.ensures c.self.view_is)

pub set-requires : goal.set-requires
set-requires c =
    let inside = c.self.inside in
    has_room c.is_empty.result inside.first c.args.arc _ inside.run.items inside.others.entries c.args.self.now c.first_arc-self-inside.ensures c.is_empty.ensures c.self.view_is c.ranges.arc.fits c.self.invariant
