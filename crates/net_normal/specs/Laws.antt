-- How the normal form and the lean form of a network are related.
use Rattle.std.specs.Prelude.{◌≡◌, List, ℤ}
use Rattle.net_normal.specs.Flows.{IsFeasibleFlow, cost_of}
use Rattle.net_normal.specs.Links.{mapped_back, value_at}
use Rattle.net_normal.specs.NormalForm.{IsNormalForm, IsLeanForm}
use Rattle.net_normal.specs.declared.instance.Instance.{Instance}
use Rattle.net_normal.specs.declared.problem.Problem.{Problem}
use Rattle.net_normal.specs.declared.problem.Link.{Link}

-- each feasible flow of `problem` has a feasible flow of `other` with the same assignment and the
-- same objective value
abbrev pub HasEachOf : (problem : Problem) (link : Link) (other : Problem) (other_link : Link) → Type 0
HasEachOf problem link other other_link = (flows : List ℤ) → IsFeasibleFlow problem flows
    → (others : List ℤ) × IsFeasibleFlow other others × (mapped_back other_link others ≡ mapped_back link flows) × (value_at other_link (cost_of other others) ≡ value_at link (cost_of problem flows))

-- the normal form and the lean form of a network have the same feasible assignments, with the same
-- objective values
abbrev pub AreAlike : Type 0
AreAlike = (instance : Instance) (plain : Problem) (plain_link : Link) (lean : Problem) (lean_link : Link) → IsNormalForm instance plain plain_link → IsLeanForm instance lean lean_link
    → HasEachOf plain plain_link lean lean_link × HasEachOf lean lean_link plain plain_link
