use Rattle.std.proofs.Common.{◌≡◌, map, drop}
use Rattle.net_tree.specs.Role.{role_in}
use Rattle.net_tree.proofs.role.role_in.Given as goal

abbrev pub invariant-loop-word : goal.invariant-loop-word
invariant-loop-word l =
    role_in (map (λ word. (word.0.now, word.1)) (drop l.word-index l.table)) l.text ≡ role_in (map (λ word. (word.0.now, word.1)) l.table) l.text
