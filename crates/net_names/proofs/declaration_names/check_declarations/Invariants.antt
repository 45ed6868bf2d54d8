use Rattle.std.proofs.Common.{◌≡◌, drop, map}
use Rattle.net_tree.specs.View.{declaration_of}
use Rattle.net_names.specs.Names.{names_fault}
use Rattle.net_names.proofs.declaration_names.check_declarations.Given as goal

-- the fault of the declarations that are left is that of all
abbrev pub invariant-loop-declaration : goal.invariant-loop-declaration
invariant-loop-declaration l = names_fault l.scope (map declaration_of (drop l.declaration-index l.declarations)) ≡ names_fault l.fn.scope (map declaration_of l.fn.declarations)
