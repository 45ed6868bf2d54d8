use Rattle.std.proofs.Common.{◌≡◌, rules, sym}
use Rattle.std.proofs.lemmas.Result.{err_from_is_err_and}
use Rattle.net_tree.specs.Spans.{span_of}
use Rattle.net_tree.specs.View.{tree}
use Rattle.net_expr.specs.Numbers.{number, sized, turned}
use Rattle.net_base.specs.Outcomes.{and_then}
use Rattle.net_expr.specs.Values.{with_sign}
use Rattle.net_expr.proofs.Walking.{answers_by, stops, goes, and_then-assoc}
use Rattle.net_expr.proofs.arithmetic.with_sign.Goals as goal

pub returns-in_err-number : goal.returns-in_err-number
returns-in_err-number c wanted is =
    let y = err_from_is_err_and c.from_residual.result c.from_residual.ensures.1 in
    rw y.1 (rw y.2
    (stops (and_then wanted (number (span_of (tree c.args.whole.now)))) (λ n. sized (span_of (tree c.args.whole.now)) (turned c.args.minus n)) _ c.in_err-number.field-0.0
    (sym (and_then-assoc wanted (number (span_of (tree c.args.whole.now))) (λ n. sized (span_of (tree c.args.whole.now)) (turned c.args.minus n))))
    (c.in_err-number.ensures wanted is)))

pub returns : goal.returns
returns c wanted is =
    let same : and_then wanted (with_sign (span_of (tree c.args.whole.now)) c.args.minus) ≡ sized (span_of (tree c.args.whole.now)) (turned c.args.minus c.in_ok-number.number) =
    goes (and_then wanted (number (span_of (tree c.args.whole.now)))) (λ n. sized (span_of (tree c.args.whole.now)) (turned c.args.minus n)) _ c.in_ok-number.number
    (sym (and_then-assoc wanted (number (span_of (tree c.args.whole.now))) (λ n. sized (span_of (tree c.args.whole.now)) (turned c.args.minus n))))
    (c.in_ok-number.ensures wanted is)
    in
    answers_by _ _ _ same (search rules)
