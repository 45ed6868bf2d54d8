use Rattle.std.proofs.Common.{◌≡◌, rules, Ok, Some, sym, ◌∙◌, arith}
use Rattle.std.proofs.lemmas.Grind.{common_steps}
use Rattle.std.proofs.lemmas.Result.{err_from_is_err_and}
use Rattle.net_tree.specs.Spans.{span_of}
use Rattle.net_tree.specs.View.{tree}
use Rattle.net_expr.specs.Numbers.{number, gathered}
use Rattle.net_base.specs.Outcomes.{and_then}
use Rattle.net_expr.proofs.Walking.{stops, goes, and_then-assoc}
use Rattle.net_expr.proofs.arithmetic.one_more.Goals as goal

pub returns-in_err-number-clause-value : goal.returns-in_err-number-clause-value
returns-in_err-number-clause-value c wanted is =
    let y = err_from_is_err_and c.from_residual.result c.from_residual.ensures.1 in
    rw y.1 (rw y.2
    (stops (and_then wanted (number (span_of (tree c.args.whole.now)))) (λ n. Ok (Some (gathered c.args.reduction c.args.so_far.now n))) _ c.in_err-number.field-0.0
    (sym (and_then-assoc wanted (number (span_of (tree c.args.whole.now))) (λ n. Ok (Some (gathered c.args.reduction c.args.so_far.now n)))))
    (c.in_err-number.ensures wanted is)))

pub returns-clause-value : goal.returns-clause-value
returns-clause-value c wanted is =
    let same : and_then wanted (λ v. and_then (number (span_of (tree c.args.whole.now)) v) (λ n. Ok (Some (gathered c.args.reduction c.args.so_far.now n)))) ≡ Ok (Some (gathered c.args.reduction c.args.so_far.now c.in_ok-number.number)) =
    goes (and_then wanted (number (span_of (tree c.args.whole.now)))) (λ n. Ok (Some (gathered c.args.reduction c.args.so_far.now n))) _ c.in_ok-number.number
    (sym (and_then-assoc wanted (number (span_of (tree c.args.whole.now))) (λ n. Ok (Some (gathered c.args.reduction c.args.so_far.now n)))))
    (c.in_ok-number.ensures wanted is)
    in
    same ∙ search rules

pub returns-clause-small : goal.returns-clause-small
returns-clause-small c = grind (arith, common_steps)
