use Rattle.std.proofs.Common.{◌≡◌, ◌≤◌, ◌-◌, ◌++◌, length, replicate, false}
use Rattle.net_dimacs.proofs.certificate_draft.with_absent.Given as goal

abbrev pub invariant-loop : goal.invariant-loop
invariant-loop l =
    (length l.fn.flags.items ≤ l.counter) × (l.flags.items ≡ l.fn.flags.items ++ replicate (l.counter - length l.fn.flags.items) false)
    × (l.nodes ≤ length l.fn.flags.items → l.counter ≡ length l.fn.flags.items)
