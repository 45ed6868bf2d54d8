use Rattle.std.specs.Prelude.{◌≡◌, ◌++◌, drop, map}
use Rattle.net_tree.specs.View.{declaration_of}
use Rattle.net_bind.specs.Names.{declared}
use Rattle.net_bind.proofs.Fresh.{IsFreshFrom}
use Rattle.net_bind.proofs.declared_names.declared.Given as goal

abbrev pub invariant-loop-decl : goal.invariant-loop-decl
invariant-loop-decl l = record {
  goes_on : l.are_sets ++ declared (map declaration_of (drop l.decl-index l.decls)) ≡ declared (map declaration_of l.fn.decls);
  fresh : IsFreshFrom l.are_sets (map declaration_of (drop l.decl-index l.decls));
}
