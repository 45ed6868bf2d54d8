-- The main theorem about a compiled model (AMPL book, chapter 15; First DIMACS Implementation
-- Challenge, minimum-cost flow): its text is a flow problem whose feasible flows correspond one to
-- one to the model's feasible assignments, and whose costs correspond to their objective values.
use Rattle.std.specs.Prelude.{◌≡◌, ℕ, Bool, List, ◌++◌, map, Option, Some, Ok}
use Rattle.std.specs.List.{flat_map}
use Rattle.net_tree.specs.Tree.{Declaration}
use Rattle.net_data.specs.declared.statement.Tables.{Tables}
use Rattle.net_bind.specs.Binding as binding
use Rattle.net_expr.specs.Worlds.{Name, World}
use Rattle.net_dimacs.specs.Problems.{IsProblemText, IsOnlyProblem}
use Rattle.net_dimacs.specs.Written.{problem_text}
use Rattle.net_inst.specs.AsWritten.{nodes, arcs, node_declared, arc_declared}
use Rattle.net_inst.specs.Readings.{Objective, objectives, chosen}
use Rattle.net_inst.specs.Laws.{AreNames}
use Rattle.net_inst.specs.ByName.{CorrespondsByName}
use Rattle.net_inst.specs.Instances.{network, seen_as}
use Rattle.net_inst.specs.declared.network.Named.{Named}
use Rattle.net_normal.specs.Correspondence.{CorrespondsOneToOne}
use Rattle.net_normal.specs.NormalForm.{IsFormIn}
use Rattle.net_driver.specs.Reading.{IsModel, IsData}
use Rattle.net_report.specs.Links.{link_text}
use Rattle.net_driver.specs.Made.{SizesAgree, profile_of}
use Rattle.net_driver.specs.declared.compiled.Compiled.{Compiled}

-- the model file contains these declarations, the data file these statements, and together they
-- give the sets and parameters these values
pub record IsModelWithData (model_text data_text : List ℕ) (ds : List Declaration) (w : World) : Type 0 where
  pub model : IsModel model_text ds
  pub tables : Tables
  pub statements : IsData data_text tables
  pub world : binding.world ds tables.statements ≡ Ok w

pub record IsBuilt (lean : Bool) (wanted : Option Name) (model_text data_text : List ℕ) (c : Compiled) : Type 0 where
  -- the two files are a model with its data
  pub declarations : List Declaration
  pub world : World
  pub accepts : IsModelWithData model_text data_text declarations world
  -- in this world the declarations have a network: each node, arc, bound, end and coefficient
  -- exists and has a value. So no statement below uses the value that a definition gives to an
  -- error, such as an empty list or 0
  pub made : Named
  pub has_network : network wanted world declarations ≡ Ok (seen_as made)
  -- the names are the network's; node by node and arc by arc the problem is its normal form, or its
  -- lean form if requested. So the name map gives each node and arc of the problem its own name,
  -- also if there is no feasible flow and `corresponds` below says nothing
  pub names : c.names ≡ made.names
  pub normal : IsFormIn (profile_of lean) made.instance c.problem c.link
  -- by number: the feasible flows of the problem correspond one to one to the feasible assignments
  -- of the network's arcs
  pub by_number : CorrespondsOneToOne made.instance c.problem c.link
  pub sizes : SizesAgree c
  -- the objective is the requested one, or the only one; the names are those that the model
  -- declares, in order
  pub objective : Objective
  pub is_chosen : chosen wanted (objectives world declarations) ≡ Some objective
  pub named : c.names.objective ≡ objective.name
  pub sense : c.link.sense ≡ objective.sense
  pub node_names : AreNames (flat_map node_declared declarations) (map (λ v. v.label) (nodes world declarations)) c.names.nodes
  pub arc_names : AreNames (flat_map arc_declared declarations) (map (λ a. a.label) (arcs world declarations)) c.names.arcs
  -- the text is the name map followed by the problem's lines; it contains this problem and no other
  pub text : c.text.items ≡ link_text c.names c.link ++ problem_text c.problem.supplies.items c.problem.arcs.items
  pub problem : IsProblemText c.text.items c.problem.supplies.items c.problem.arcs.items
  pub only : IsOnlyProblem c.text.items c.problem.supplies.items c.problem.arcs.items
  -- each feasible flow maps to a feasible assignment of names and keys (forward), each of these
  -- comes from a flow (onto), from only one (injective), and the flow's cost, with the printed
  -- constant and sign, gives the assignment's objective value (value)
  pub corresponds : CorrespondsByName (nodes world declarations) (arcs world declarations) objective c.problem c.link
