use Rattle.std.proofs.Common.{IsTrue, arith, rules, pos}
use Rattle.std.proofs.lemmas.Grind.{common_steps}
use Rattle.std.proofs.lemmas.List.Elements.{All-more}
use Rattle.net_normal.specs.Limits.{IsFlowArcOf}
use Rattle.net_normal.specs.declared.problem.FlowArc.{FlowArc}
use Rattle.net_normal.proofs.AllTaken.{all_taken}
use Rattle.net_normal.proofs.problem.are_arcs.Goals as goal

-- what a read past the end would give
abbrev no_arc : FlowArc
no_arc = record { src = 0; dst = 0; low = pos 0; cap = pos 0; cost = pos 0 }

pub loop-arc-preserved : goal.loop-arc-preserved
loop-arc-preserved c =
    let passed : IsTrue c.is_arc.result = search rules in
    All-more (IsFlowArcOf c.args.nodes) c.args.arcs.now c.loop-arc.arc-index no_arc c.loop-arc-test.true c.loop-arc.invariant ((c.is_arc.ensures).0 passed)

pub returns : goal.returns
returns c = (λ _. all_taken (IsFlowArcOf c.args.nodes) c.args.arcs.now c.loop-arc.arc-index (omega arith) c.loop-arc.invariant, λ _. search rules)

pub returns-then-not-is_arc : goal.returns-then-not-is_arc
returns-then-not-is_arc c = grind (arith, common_steps)

pub loop-arc-init : goal.loop-arc-init
loop-arc-init c = grind (arith, common_steps)
