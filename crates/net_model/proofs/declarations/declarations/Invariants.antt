use Rattle.std.proofs.Common.{◌≡◌, ◌≤◌, ◌+◌, ◌-◌, length, map}
use Rattle.net_tree.specs.View.{declaration_of}
use Rattle.net_model.specs.Expressions.{nested}
use Rattle.net_model.specs.Declarations.{declaration_step, any_left}
use Rattle.net_model.specs.Rows.{row, with_row}
use Rattle.net_model.proofs.declarations.declarations.Given as goal

abbrev pub invariant-loop-alloc : goal.invariant-loop-alloc
invariant-loop-alloc l = record {
  read :
      with_row (map declaration_of l.found.items) (row (length l.fn.tokens - length l.found.items) (declaration_step (nested l.depth)) (λ s. any_left) tt l.tokens)
      ≡ row (length l.fn.tokens) (declaration_step (nested l.depth)) (λ s. any_left) tt l.fn.tokens;
  room : length l.found.items + length l.tokens ≤ length l.fn.tokens;
}

abbrev pub decreases-loop-alloc : goal.decreases-loop-alloc
decreases-loop-alloc l = length l.tokens
