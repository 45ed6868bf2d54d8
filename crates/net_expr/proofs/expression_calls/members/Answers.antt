use Rattle.std.proofs.Common.{ap, sym}
use Rattle.net_tree.specs.View.{tree}
use Rattle.net_expr.specs.Items.{tuples_of}
use Rattle.net_base.specs.Outcomes.{and_then}
use Rattle.net_expr.specs.Values.{value}
use Rattle.net_expr.proofs.Walking.{answers_by}
use Rattle.net_expr.proofs.expression_calls.members.Goals as goal

pub returns : goal.returns
returns c =
    answers_by _ _ _ (ap (λ at. and_then (value c.args.env.now c.args.scope.now (tree c.args.expr.now)) (tuples_of at)) (sym c.span_of.ensures)) (c.tuples_of.ensures _ c.evaluate.ensures)
