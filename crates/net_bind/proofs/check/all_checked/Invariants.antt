use Rattle.std.specs.Prelude.{◌≡◌, ◌≤◌, drop, map}
use Rattle.net_tree.specs.View.{declaration_of}
use Rattle.net_base.specs.Outcomes.{each}
use Rattle.net_bind.specs.Binding.{check_one}
use Rattle.net_bind.proofs.check.all_checked.Given as goal

abbrev pub invariant-loop-decl : goal.invariant-loop-decl
invariant-loop-decl l = record {
  goes_on : each (check_one l.fn.world) (map declaration_of (drop l.decl-index l.fn.decls)) l.known ≡ each (check_one l.fn.world) (map declaration_of l.fn.decls) 0;
  few : l.known ≤ l.decl-index;
}
