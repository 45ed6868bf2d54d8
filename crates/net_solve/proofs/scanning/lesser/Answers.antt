use Rattle.std.proofs.Common.{FitsSigned, w64, rules, arith}
use Rattle.net_solve.proofs.Scans.{scanned-kept, scanned-new}
use Rattle.std.proofs.lemmas.Grind.{common_steps}
use Rattle.net_solve.proofs.scanning.lesser.Goals as goal

pub returns-then-reduced-least-clause-over : goal.returns-then-reduced-least-clause-over
returns-then-reduced-least-clause-over c =
    let f : FitsSigned w64 c.args.least.now = search rules in
    scanned-kept _ _ _ _ _ _ c.requires.cost c.requires.potential c.requires.head_potential f c.if-reduced-least.true

pub returns-clause-over : goal.returns-clause-over
returns-clause-over c = scanned-new _ _ _ _ _ c.requires.cost c.requires.potential c.requires.head_potential

pub overflow_add-reduced : goal.overflow_add-reduced
overflow_add-reduced c = grind (arith)

pub returns-then-flow-entry-clause-kept : goal.returns-then-flow-entry-clause-kept
returns-then-flow-entry-clause-kept c = grind (arith)

pub returns-then-flow-entry-clause-over : goal.returns-then-flow-entry-clause-over
returns-then-flow-entry-clause-over c = grind (arith)

pub overflow_sub-reduced : goal.overflow_sub-reduced
overflow_sub-reduced c = grind (arith, common_steps)

pub returns-clause-kept : goal.returns-clause-kept
returns-clause-kept c = grind (arith, common_steps)

pub returns-then-reduced-least-clause-kept : goal.returns-then-reduced-least-clause-kept
returns-then-reduced-least-clause-kept c = grind (arith, common_steps)
