use Rattle.std.specs.Prelude.{◌≡◌, drop, map, []}
use Rattle.net_tree.specs.View.{declaration_of}
use Rattle.net_base.specs.Outcomes.{each}
use Rattle.net_bind.specs.Binding.{declare, widths}
use Rattle.net_bind.proofs.Fresh.{IsFreshFrom}
use Rattle.net_bind.proofs.bind_world.declare_all.Given as goal

abbrev pub invariant-loop-decl : goal.invariant-loop-decl
invariant-loop-decl l = record {
  goes_on : each (declare l.fn.given) (map declaration_of (drop l.decl-index l.fn.decls)) l.world ≡ each (declare l.fn.given) (map declaration_of l.fn.decls) [];
  kept : l.widths.items ≡ widths l.world;
  fresh : IsFreshFrom l.world (map declaration_of (drop l.decl-index l.fn.decls));
}
