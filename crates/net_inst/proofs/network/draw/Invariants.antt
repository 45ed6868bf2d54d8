use Rattle.std.specs.Prelude.{◌≡◌, ◌≤◌, drop, map, option_copied}
use Rattle.net_tree.specs.View.{declaration_of}
use Rattle.net_inst.specs.Drafts.{draw}
use Rattle.net_inst.proofs.network.draw.Given as goal

abbrev pub invariant-loop-declaration : goal.invariant-loop-declaration
invariant-loop-declaration l =
    (draw (option_copied l.wanted) l.world (map declaration_of (drop l.declaration-index l.declarations)) l.draft
    ≡ draw (option_copied l.fn.wanted) l.fn.world (map declaration_of l.fn.declarations) l.fn.draft)
    × (l.draft.known ≤ l.declaration-index)
