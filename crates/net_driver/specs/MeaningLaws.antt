-- Laws about the network that the two inputs mean.
use Rattle.std.specs.Prelude.{◌≡◌, ℕ, Bool, List, map, Option}
use Rattle.std.specs.List.{IsDistinct}
use Rattle.net_check.specs.Certificates.{IsViolatedCut}
use Rattle.net_check.specs.declared.certificate.Side.{Side}
use Rattle.net_tree.specs.Erasure.{declarations}
use Rattle.net_tree.specs.Syntax.{Declaration}
use Rattle.net_normal.specs.declared.problem.Link.{Link}
use Rattle.net_normal.specs.declared.problem.Problem.{Problem}
use Rattle.net_expr.specs.Worlds.{Name}
use Rattle.net_meaning.specs.Network.{Arc, Network, same_label, IsNetwork}
use Rattle.net_meaning.specs.OfTrees.{meant_world}
use Rattle.net_meaning.specs.Represents.{Represents}
use Rattle.net_meaning.specs.Values.{World}
use Rattle.net_driver.specs.declared.answer.Answer.{Answer}
use Rattle.net_driver.specs.declared.compiled.Compiled.{Compiled}
use Rattle.net_driver.specs.IsSolved.{IsSolved}
use Rattle.net_driver.specs.IsBuilt.{IsBuilt}
use Rattle.net_driver.specs.Meaning.{MeanNetwork, IsCompilation, HoldsIn, nodes_of_cut, shortage, AreMissed, IsSolution}

-- a compiled model that satisfies the main theorem by the stages is one by the meaning of the inputs
abbrev pub CompilationsAreSound : Type 0
CompilationsAreSound = (lean : Bool) (wanted : Option Name) (model_text data_text : List ℕ) (c : Compiled) → IsBuilt lean wanted model_text data_text c
    → IsCompilation wanted model_text data_text c

-- the same for the result of a solved model
abbrev pub SolutionsAreSound : Type 0
SolutionsAreSound = (lean : Bool) (wanted : Option Name) (model_text data_text : List ℕ) (a : Answer) → IsSolved lean wanted model_text data_text a
    → IsSolution wanted model_text data_text a

-- declarations have at most one network in a world
abbrev pub NetworksAreUnique : Type 0
NetworksAreUnique = (wanted : Option Name) (w : World) (ds : List Declaration) (network other : Network) → IsNetwork wanted w ds network → IsNetwork wanted w ds other → network ≡ other

-- the two inputs mean at most one network, and have it in one world
abbrev pub MeantNetworksAreUnique : Type 0
MeantNetworksAreUnique = (wanted : Option Name) (model_text data_text : List ℕ) (network other : Network)
    → (h : MeanNetwork wanted model_text data_text network) (j : MeanNetwork wanted model_text data_text other) → (h.world ≡ j.world) × (network ≡ other)

-- the declarations have a network in the world, and the problem represents it
pub record RepresentsModel (wanted : Option Name) (w : World) (ds : List Declaration) (problem : Problem) (link : Link) : Type 0 where
  pub network : Network
  pub is_network : IsNetwork wanted w ds network
  pub represents : Represents network problem link

-- the problem of a compiled model represents the network of the model's declarations, in the world of the model and its data
abbrev pub CompiledProblemsRepresent : Type 0
CompiledProblemsRepresent = (lean : Bool) (wanted : Option Name) (model_text data_text : List ℕ) (c : Compiled) (h : IsBuilt lean wanted model_text data_text c)
    → RepresentsModel wanted (meant_world h.world) (declarations h.declarations) c.problem c.link

-- the compiled problem represents the network of the declarations in the world, and the outcome holds in this network
pub record SolvesModel (wanted : Option Name) (w : World) (ds : List Declaration) (a : Answer) : Type 0 where
  pub represented : RepresentsModel wanted w ds a.compiled.problem a.compiled.link
  pub holds : HoldsIn represented.network a.outcome

-- the outcome of a solved model holds in the network of the model's declarations, in the world of the model and its data
abbrev pub AnswersSolveModels : Type 0
AnswersSolveModels = (lean : Bool) (wanted : Option Name) (model_text data_text : List ℕ) (a : Answer) (h : IsSolved lean wanted model_text data_text a)
    → SolvesModel wanted (meant_world h.compiled.world) (declarations h.compiled.declarations) a

-- every assignment within the bounds misses the conditions of the nodes of a violated cut, by at least the difference of the cut's two numbers;
-- this holds of every problem that represents a network in which no two arcs have the same label
abbrev pub CutsAreMissed : Type 0
CutsAreMissed = (network : Network) (problem : Problem) (link : Link) (flags : List Bool) (side : Side) → Represents network problem link
    → IsDistinct same_label (map (λ (a : Arc). a.label) network.arcs) → IsViolatedCut problem flags side → AreMissed (nodes_of_cut network.nodes flags) network.arcs (shortage problem flags side)
