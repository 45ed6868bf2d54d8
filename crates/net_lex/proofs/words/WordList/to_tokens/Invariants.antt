use Rattle.std.proofs.Common.{◌≡◌, ◌++◌}
use Rattle.net_lex.proofs.words.WordList.to_tokens.Given as goal

abbrev pub invariant-loop-word : goal.invariant-loop-word
invariant-loop-word l = l.tokens.items ++ l.word-iterator ≡ l.fn.self
