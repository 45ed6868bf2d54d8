-- No two nodes and no two arcs of what is read have both a name and a key.
use Rattle.std.specs.Prelude.{◌≡◌, ℕ, List, Option, Ok}
use Rattle.net_data.specs.declared.statement.Statement.{Statement}
use Rattle.net_tree.specs.Tree.{Declaration}
use Rattle.net_names.specs.Names.{IsWellNamed}
use Rattle.net_expr.specs.Worlds.{Name, World}
use Rattle.net_bind.specs.Binding as binding
use Rattle.net_bind.proofs.HeldEntries.{have_sets}
use Rattle.net_inst.specs.AsWritten.{nodes, arcs, AreDistinct}
use Rattle.net_inst.specs.Instances.{Network}
use Rattle.net_inst.proofs.KeysOnce.{are_distinct_in_sets}
use Rattle.net_driver.specs.Reading.{IsNetworkOf}
use Rattle.net_driver.proofs.NamesOnce.{nodes_once, arcs_once}

pub bound_apart : (ds : List Declaration) (ss : List Statement) (w : World) → IsWellNamed ds → binding.world ds ss ≡ Ok w → AreDistinct (nodes w ds) (arcs w ds)
bound_apart ds ss w named bound = are_distinct_in_sets w ds (have_sets ds ss w bound) (nodes_once ds named) (arcs_once ds named)

pub read_apart : (wanted : Option Name) (m d : List ℕ) (n : Network) (x : IsNetworkOf wanted m d n) → AreDistinct (nodes x.network.world x.declarations) (arcs x.network.world x.declarations)
read_apart wanted m d n x = bound_apart x.declarations x.tables.statements x.network.world x.model.named x.network.bound
