-- The parts of a compiled model, by number.
use Rattle.std.specs.Prelude.{◌≡◌, ℕ, ◌+◌, ◌≤◌, List, ◌++◌, length, vec_len, Option, Bool, true, false}
use Rattle.std.specs.List.{AllByRecursion}
use Rattle.net_dimacs.specs.Problems.{IsProblemText, IsOnlyProblem}
use Rattle.net_dimacs.specs.Written.{problem_text}
use Rattle.net_expr.specs.Worlds.{Name}
use Rattle.net_inst.specs.Instances.{seen_as}
use Rattle.net_inst.specs.declared.network.Named.{Named}
use Rattle.net_normal.specs.Correspondence.{CorrespondsOneToOne}
use Rattle.net_normal.specs.NormalForm.{IsFormIn}
use Rattle.net_normal.specs.declared.profile.Profile.{Profile}
use Rattle.net_normal.specs.declared.profile.Profile.TheVariants.{Plain, Lean}
use Rattle.net_driver.specs.Reading.{IsNetworkOf}
use Rattle.net_report.specs.Links.{link_text}
use Rattle.net_driver.specs.declared.compiled.Compiled.{Compiled}

-- the requested form
abbrev pub profile_of : Bool → Profile
profile_of true = Lean
profile_of false = Plain

-- the names are those of the network; node by node and arc by arc the problem is its normal form
-- or, if requested, its lean form, so the printed numbers belong to these names
pub record IsNormalFormOf (lean : Bool) (wanted : Option Name) (model_text data_text : List ℕ) (c : Compiled) : Type 0 where
  pub named : Named
  pub network : IsNetworkOf wanted model_text data_text (seen_as named)
  pub names : c.names ≡ named.names
  pub normal : IsFormIn (profile_of lean) named.instance c.problem c.link
  pub corresponds : CorrespondsOneToOne named.instance c.problem c.link
  pub text : c.text.items ≡ link_text c.names c.link ++ problem_text c.problem.supplies.items c.problem.arcs.items
  pub problem : IsProblemText (problem_text c.problem.supplies.items c.problem.arcs.items) c.problem.supplies.items c.problem.arcs.items
  pub only : IsOnlyProblem (problem_text c.problem.supplies.items c.problem.arcs.items) c.problem.supplies.items c.problem.arcs.items

-- the problem has one node for each node name, and the outside node; each arc name has a number,
-- which is 0 or that of an arc of the problem
pub record SizesAgree (c : Compiled) : Type 0 where
  pub nodes : vec_len c.problem.supplies ≡ length c.names.nodes.keys + 1
  pub arcs : vec_len c.link.numbers ≡ length c.names.arcs.keys
  pub numbers : AllByRecursion (λ n. n ≤ vec_len c.problem.arcs) c.link.numbers.items
