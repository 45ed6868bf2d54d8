use Rattle.std.proofs.Common.{◌≡◌, map, drop}
use Rattle.net_tree.specs.Operations.{operation_in}
use Rattle.net_tree.proofs.operator.operation_in.Given as goal

abbrev pub invariant-loop-word : goal.invariant-loop-word
invariant-loop-word l =
    operation_in (map (λ word. (word.0.now, word.1)) (drop l.word-index l.table)) l.text ≡ operation_in (map (λ word. (word.0.now, word.1)) l.table) l.text
