use Rattle.std.specs.Prelude.{List, drop}
use Rattle.net_tree.specs.View.{links_of}
use Rattle.net_expr.specs.DeclaredRows.{AreNewDummies}
use Rattle.net_expr.specs.Worlds.{Name}
use Rattle.net_expr.proofs.declared_rows.add_dummies.Given as goal

abbrev pub invariant-loop-component : goal.invariant-loop-component
invariant-loop-component l =
    (after : List Name) → AreNewDummies l.fn.env (links_of (drop l.component-index l.components)) l.names.items after → AreNewDummies l.fn.env (links_of l.fn.components) l.fn.names.items after
