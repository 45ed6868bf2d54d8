use Rattle.std.specs.Prelude.{◌≡◌, drop, map}
use Rattle.net_tree.specs.View.{declaration_of}
use Rattle.net_inst.specs.Instances.{end_of}
use Rattle.net_inst.proofs.network.end_of.Given as goal

abbrev pub invariant-loop-declaration : goal.invariant-loop-declaration
invariant-loop-declaration l = end_of l.end (map declaration_of (drop l.declaration-index l.declarations)) ≡ end_of 0 (map declaration_of l.fn.declarations)
