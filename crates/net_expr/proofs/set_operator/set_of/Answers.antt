use Rattle.std.specs.Prelude.{Some}
use Rattle.std.proofs.Common.{◌∙◌, ap, sym, arith}
use Rattle.std.proofs.lemmas.Grind.{common_steps}
use Rattle.net_tree.specs.Spans.{span_of}
use Rattle.net_tree.specs.View.{tree}
use Rattle.net_expr.specs.Sets.{set_of, mixed}
use Rattle.net_expr.proofs.Walking.{answers_by}
use Rattle.net_expr.proofs.set_operator.set_of.Goals as goal

pub returns : goal.returns
returns c =
    answers_by _ _ _
    (ap (λ d. set_of (span_of (tree c.args.whole.now)) d (mixed c.args.operation c.args.first c.args.second.now)) c.in-Some.is
    ∙ ap (λ ts. set_of (span_of (tree c.args.whole.now)) (Some c.in-Some.dimension) (mixed c.args.operation ts c.args.second.now)) (sym c.in_ok-first-in-Some.ensures))
    (c.made.ensures _ c.mixed.ensures)

pub returns-in-None : goal.returns-in-None
returns-in-None c = grind (arith, common_steps)
