-- The law that relates the problem of a network to the meaning of the model.
use Rattle.std.specs.Prelude.{◌≡◌, List, Option, Ok}
use Rattle.net_tree.specs.Declarations.{AreDeclarations}
use Rattle.net_tree.specs.Tree.{Declaration}
use Rattle.net_normal.specs.Correspondence.{CorrespondsOneToOne}
use Rattle.net_normal.specs.declared.problem.Link.{Link}
use Rattle.net_normal.specs.declared.problem.Problem.{Problem}
use Rattle.net_normal.specs.declared.profile.Profile.{Profile}
use Rattle.net_normal.specs.NormalForm.{IsFormIn}
use Rattle.net_expr.specs.SetValues.{HasSets}
use Rattle.net_expr.specs.Worlds.{Name, World}
use Rattle.net_meaning.specs.Network.{IsEvaluated}
use Rattle.net_meaning.specs.Represents.{Represents}
use Rattle.net_inst.specs.declared.network.Named.{Named}
use Rattle.net_inst.specs.Instances.{network, seen_as}
use Rattle.net_inst.specs.Soundness.{IsNamedOnce, HasNetwork}

-- everything in the network of the model has a value, and the normal form or the lean form of the computed network represents it
abbrev pub ProblemsRepresent : Type 0
ProblemsRepresent = (requested : Option Name) (w : World) (ds : List Declaration) (n : Named) (p : Profile) (problem : Problem) (link : Link) → HasSets w → IsNamedOnce ds → AreDeclarations ds → network requested w ds ≡ Ok (seen_as n)
    → IsFormIn p n.instance problem link → CorrespondsOneToOne n.instance problem link → (has : HasNetwork requested w ds (seen_as n)) × IsEvaluated has.network × Represents has.network problem link
