-- In a line of the name map, each name is the declared name with its key, byte for byte.
use Rattle.std.specs.Prelude.{◌≡◌, ℕ, Bool, List, Option}
use Rattle.std.specs.List.{AllByRecursion}
use Rattle.net_expr.specs.Worlds.{Name}
use Rattle.net_inst.specs.declared.network_names.Names.{Names}
use Rattle.net_inst.specs.Lists.{Listed}
use Rattle.net_report.specs.LineNames.{HasLineNames}
use Rattle.net_report.specs.Links.{in_line}
use Rattle.net_report.specs.References.{names_in}
use Rattle.net_driver.specs.declared.compiled.Compiled.{Compiled}
use Rattle.net_driver.specs.IsBuilt.{IsBuilt}
use Rattle.net_driver.specs.Meaning.{IsCompilation}

-- no declared name and no text of a key contains a line ending, so each printed name is unchanged in its line
pub record AreExact (listed : Listed) : Type 0 where
  pub within : HasLineNames listed
  pub unchanged : AllByRecursion (λ (name : List ℕ). in_line name ≡ name) (names_in listed)

-- the names of nodes and of arcs are exact
pub record HasExactNames (names : Names) : Type 0 where
  pub nodes : AreExact names.nodes
  pub arcs : AreExact names.arcs

-- the names of a compiled model of two inputs are exact
abbrev pub NamesAreExact : Type 0
NamesAreExact = (requested : Option Name) (model_text data_text : List ℕ) (c : Compiled) → IsCompilation requested model_text data_text c → HasExactNames c.names

-- the same for a compiled model that satisfies the main theorem by the stages
abbrev pub BuiltNamesAreExact : Type 0
BuiltNamesAreExact = (lean : Bool) (requested : Option Name) (model_text data_text : List ℕ) (c : Compiled) → IsBuilt lean requested model_text data_text c → HasExactNames c.names
