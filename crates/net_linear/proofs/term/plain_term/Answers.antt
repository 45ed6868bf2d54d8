use Rattle.std.proofs.Common.{ℤ, subst, arith}
use Rattle.std.proofs.lemmas.Grind.{common_steps}
use Rattle.net_tree.specs.Spans.{span_of}
use Rattle.net_tree.specs.View.{tree}
use Rattle.net_base.specs.Outcomes.{Refines}
use Rattle.net_linear.specs.Forms.{just, sized}
use Rattle.net_linear.proofs.Terms.{plain_number}
use Rattle.net_linear.proofs.term.plain_term.Goals as goal

pub returns-in-None : goal.returns-in-None
returns-in-None c = grind (arith, common_steps)

pub returns-in-Some : goal.returns-in-Some
returns-in-Some c =
    plain_number (span_of (tree c.args.whole.now)) c.args.number.now c.in-Some.number c.number_term.result c.in-Some.is
    (subst (λ (m : ℤ). Refines (sized (span_of (tree c.args.whole.now)) (just m)) c.number_term.result) (grind (arith, common_steps)) c.number_term.ensures)
