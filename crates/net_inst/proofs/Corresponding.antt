-- What corresponds to a network corresponds to its model by names.
use Rattle.std.specs.Prelude.{◌≡◌, ◌↔◌, List, Some, ℤ}
use Rattle.std.proofs.Common.{ap, sym, ◌∙◌, subst}
use Rattle.net_normal.specs.Assignments.{IsWithinBounds, IsFeasibleAssignment}
use Rattle.net_normal.specs.Assignments as by_number
use Rattle.net_normal.specs.Flows.{IsFeasibleFlow}
use Rattle.net_normal.specs.Links.{mapped_back}
use Rattle.net_inst.specs.AsWritten.{nodes, arcs, Assignment, numbers_on, IsFeasible}
use Rattle.net_inst.specs.ByName.{up, CorrespondAsWritten}
use Rattle.net_inst.specs.Instances.{seen_as}
use Rattle.net_inst.specs.Laws.{IsBoundedAs, IsObjectiveOf}
use Rattle.net_inst.specs.Readings.{Objective, objectives, chosen}
use Rattle.net_inst.proofs.Aiming.{have_objective}
use Rattle.net_inst.proofs.Feasible.{have_feasible, have_assignments}
use Rattle.net_inst.proofs.Written.{have_bounds}
use Rattle.net_inst.proofs.Zips.{zip_long}

pub correspond_as_written : CorrespondAsWritten
correspond_as_written wanted w ds n problem link e distinct one = (
  objective.0,
  objective.1,
  record {
    forward = λ flows h. (alike (up (arcs w ds) link flows)).1 (subst (IsFeasibleAssignment n.instance) (sym (numbers flows h)) (one.forward flows h));
    onto = λ x h.
        let found = one.onto (numbers_on x (arcs w ds)) ((alike x).0 h) in
        (found.0, found.1, numbers found.0 found.1 ∙ found.2);
    injective = λ flows others h k same. one.injective flows others h k (sym (numbers flows h) ∙ same ∙ numbers others k);
    value = λ flows h.
        sym (objective.2.value distinct.arcs (up (arcs w ds) link flows))
        ∙ ap (λ (ys : List ℤ). by_number.value_of n.instance ys) (numbers flows h)
        ∙ one.value flows h;
  },
)
  where
    objective : (o : Objective) × (chosen wanted (objectives w ds) ≡ Some o) × IsObjectiveOf o (seen_as n) (arcs w ds)
    objective = have_objective wanted w ds (seen_as n) e

    alike : (x : Assignment) → IsFeasible (nodes w ds) (arcs w ds) x ↔ IsFeasibleAssignment n.instance (numbers_on x (arcs w ds))
    alike x = have_feasible wanted w ds n e distinct x

    -- the numbers of the assignment are the lifted flow
    numbers : (flows : List ℤ) → IsFeasibleFlow problem flows → numbers_on (up (arcs w ds) link flows) (arcs w ds) ≡ mapped_back link flows
    numbers flows h =
        have_assignments (arcs w ds) (mapped_back link flows) distinct.arcs
        (zip_long IsWithinBounds n.instance.arcs.items (mapped_back link flows) (one.forward flows h).bounds ∙ zip_long IsBoundedAs (arcs w ds) n.instance.arcs.items (have_bounds wanted w ds (seen_as n) e))
