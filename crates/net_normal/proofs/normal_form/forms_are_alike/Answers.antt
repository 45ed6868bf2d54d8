use Rattle.std.proofs.Common.{sym, ◌∙◌, ap}
use Rattle.net_normal.specs.Assignments.{value_of}
use Rattle.net_normal.specs.Correspondence.{CorrespondsOneToOne}
use Rattle.net_normal.specs.Laws.{HasEachOf, AreAlike}
use Rattle.net_normal.specs.declared.instance.Instance.{Instance}
use Rattle.net_normal.specs.declared.problem.Problem.{Problem}
use Rattle.net_normal.specs.declared.problem.Link.{Link}
use Rattle.net_normal.specs.declared.profile.Profile.TheVariants.{Plain, Lean}
use Rattle.net_normal.proofs.OneToOne.{form-corresponds}
use Rattle.net_normal.proofs.normal_form.forms_are_alike.Goals as goal

-- two problems that correspond to one network have each other's assignments
each_of : (instance : Instance) (problem : Problem) (link : Link) (other : Problem) (other_link : Link) → CorrespondsOneToOne instance problem link → CorrespondsOneToOne instance other other_link → HasEachOf problem link other other_link
each_of instance problem link other other_link h k = λ flows feasible.
    let found = k.onto _ (h.forward flows feasible) in
    (found.0, found.1, found.2, sym (k.value found.0 found.1) ∙ ap (value_of instance) found.2 ∙ h.value flows feasible)

alike : AreAlike
alike instance plain plain_link lean lean_link p q =
    let h = form-corresponds Plain instance plain plain_link p in
    let k = form-corresponds Lean instance lean lean_link q in
    (each_of instance plain plain_link lean lean_link h k, each_of instance lean lean_link plain plain_link k h)

pub returns : goal.returns
returns c = record { value = alike }
