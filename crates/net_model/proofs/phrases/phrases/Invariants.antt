use Rattle.std.proofs.Common.{◌≡◌, ◌≤◌, ◌+◌, ◌-◌, length, map}
use Rattle.net_tree.specs.View.{phrase_of}
use Rattle.net_model.specs.Expressions.{nested}
use Rattle.net_model.specs.Phrases.{phrase_at, phrase_next, nothing_stood}
use Rattle.net_model.specs.Rows.{row, with_row}
use Rattle.net_model.proofs.phrases.phrases.Given as goal

abbrev pub invariant-loop-alloc : goal.invariant-loop-alloc
invariant-loop-alloc l = record {
  read :
      with_row (map phrase_of l.found.items) (row (length l.fn.tokens - length l.found.items) (phrase_at (nested l.depth) l.owner) (phrase_next l.owner) l.stood l.tokens)
      ≡ row (length l.fn.tokens) (phrase_at (nested l.depth) l.owner) (phrase_next l.owner) nothing_stood l.fn.tokens;
  room : length l.found.items + length l.tokens ≤ length l.fn.tokens;
}

abbrev pub decreases-loop-alloc : goal.decreases-loop-alloc
decreases-loop-alloc l = length l.tokens
