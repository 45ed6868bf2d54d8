use Rattle.std.proofs.Common.{◌≡◌, ◌≤◌, ◌+◌, ◌-◌, length, map}
use Rattle.net_tree.specs.View.{link_of}
use Rattle.net_model.specs.Expressions.{nested}
use Rattle.net_model.specs.Conditions.{further_term_at, sign_next}
use Rattle.net_model.specs.Rows.{row, with_row}
use Rattle.net_model.proofs.conditions.further_terms.Given as goal

abbrev pub invariant-loop-alloc : goal.invariant-loop-alloc
invariant-loop-alloc l = record {
  read :
      with_row (map link_of l.found.items) (row (length l.fn.tokens - length l.found.items) (further_term_at (nested l.depth)) sign_next l.free l.tokens)
      ≡ row (length l.fn.tokens) (further_term_at (nested l.depth)) sign_next l.fn.first l.fn.tokens;
  room : length l.found.items + length l.tokens ≤ length l.fn.tokens;
}

abbrev pub decreases-loop-alloc : goal.decreases-loop-alloc
decreases-loop-alloc l = length l.tokens
