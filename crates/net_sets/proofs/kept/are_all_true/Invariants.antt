use Rattle.std.specs.List.{list_all}
use Rattle.std.proofs.Common.{◌≡◌, drop}
use Rattle.net_sets.proofs.kept.are_all_true.Given as goal

abbrev pub invariant-loop-answer : goal.invariant-loop-answer
invariant-loop-answer l = list_all (λ answer. answer) (drop l.answer-index l.answers) ≡ list_all (λ answer. answer) l.answers
