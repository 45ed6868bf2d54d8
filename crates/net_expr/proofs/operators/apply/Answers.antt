use Rattle.std.proofs.Common.{ap, arith}
use Rattle.net_tree.specs.Spans.{span_of}
use Rattle.net_tree.specs.View.{tree}
use Rattle.net_expr.specs.Operators.{apply}
use Rattle.net_expr.proofs.Numbering.{numbers_applied}
use Rattle.net_expr.proofs.Walking.{answers_by}
use Rattle.net_expr.proofs.operators.apply.Goals as goal

pub returns-in-Equal : goal.returns-in-Equal
returns-in-Equal c =
    answers_by _ _ _ (ap (λ o. apply o (span_of (tree c.args.whole.now)) c.args.x c.args.y.now) c.in-Equal.is) (c.as_truth.ensures _ c.same.ensures)

pub returns-in-Unequal : goal.returns-in-Unequal
returns-in-Unequal c =
    answers_by _ _ _ (ap (λ o. apply o (span_of (tree c.args.whole.now)) c.args.x c.args.y.now) c.in-Unequal.is) (c.as_denial.ensures _ c.same-in-Unequal.ensures)

pub returns-in-In : goal.returns-in-In
returns-in-In c =
    answers_by _ _ _ (ap (λ o. apply o (span_of (tree c.args.whole.now)) c.args.x c.args.y.now) c.in-In.is) (c.as_truth-in-In.ensures _ c.belongs.ensures)

pub returns-in-NotIn : goal.returns-in-NotIn
returns-in-NotIn c =
    answers_by _ _ _ (ap (λ o. apply o (span_of (tree c.args.whole.now)) c.args.x c.args.y.now) c.in-NotIn.is) (c.as_denial-in-NotIn.ensures _ c.belongs-in-NotIn.ensures)

pub returns-in-Within : goal.returns-in-Within
returns-in-Within c =
    answers_by _ _ _ (ap (λ o. apply o (span_of (tree c.args.whole.now)) c.args.x c.args.y.now) c.in-Within.is) (c.as_truth-in-Within.ensures _ c.contained.ensures)

pub returns-in-NotWithin : goal.returns-in-NotWithin
returns-in-NotWithin c =
    answers_by _ _ _ (ap (λ o. apply o (span_of (tree c.args.whole.now)) c.args.x c.args.y.now) c.in-NotWithin.is) (c.as_denial-in-NotWithin.ensures _ c.contained-in-NotWithin.ensures)

pub returns-in-Plus : goal.returns-in-Plus
returns-in-Plus c = numbers_applied c.args.operation (span_of (tree c.args.whole.now)) c.args.x c.args.y.now c.of_numbers.result c.in-Plus.is c.of_numbers.ensures

pub returns-in-And : goal.returns-in-And
returns-in-And c = grind (arith)

pub returns-in-Cross : goal.returns-in-Cross
returns-in-Cross c = grind (arith)

pub returns-in-Inter : goal.returns-in-Inter
returns-in-Inter c = grind (arith)
