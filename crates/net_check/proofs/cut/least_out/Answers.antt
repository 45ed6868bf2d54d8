use Rattle.std.proofs.Common.{◌≡◌, ◌<◌, ◌≤◌, ◌^◌, cond, List, length, get_or, ℤ, pos, ◌-ℤ◌, ap, ◌∙◌, arith}
use Rattle.std.proofs.lemmas.Grind.{common_steps}
use Rattle.net_normal.specs.Limits.{IsSized}
use Rattle.net_normal.specs.declared.problem.FlowArc.{FlowArc}
use Rattle.net_check.specs.Certificates.{goes_out, comes_in}
use Rattle.net_check.proofs.Pairs.{no_arc}
use Rattle.net_check.proofs.Sums.{smaller, sum_is}
use Rattle.net_check.proofs.Cuts.{crossed-next, total-small}
use Rattle.net_check.proofs.cut.least_out.Goals as goal

pub loop-arc-preserved : goal.loop-arc-preserved
loop-arc-preserved c =
    let problem = c.args.problem.now in
    let arcs = problem.arcs.items in
    let flags = c.args.flags.now in
    let i = c.loop-arc.arc-index in
    let inside : i < length arcs = omega (arith, c.loop-arc-test.true, ap length c.deref-arc-items.ensures.value) in
    let few : i ≤ 200000 = omega (arith, inside, problem.few_arcs, problem.arcs.ok.0) in
    let x = c.across-total.result in
    let counted : FlowArc → ℤ = λ arc. cond (goes_out flags arc) arc.low (pos 0) -ℤ cond (comes_in flags arc) arc.cap (pos 0) in
    let is : x ≡ counted (get_or arcs i no_arc) = c.across-total.ensures.value ∙ ap (λ (bs : List FlowArc). counted (get_or bs i no_arc)) c.deref-arc-items.ensures.value in
    let big : IsSized (10 ^ 36) x = smaller (10 ^ 18) (10 ^ 36) x (omega arith) c.across-total.ensures.size in
    crossed-next (λ arc. arc.low) (λ arc. arc.cap) arcs flags i no_arc _ x _ inside c.loop-arc.invariant is c.across-total.ensures.size
    (sum_is _ x (total-small i _ few c.loop-arc.invariant.size) big)

pub loop-arc-init : goal.loop-arc-init
loop-arc-init c = grind (arith, common_steps)

pub returns : goal.returns
returns c = grind (arith, common_steps)

pub across-total-requires-clause-into : goal.across-total-requires-clause-into
across-total-requires-clause-into c = grind (arith, common_steps)

pub across-total-requires-clause-arc : goal.across-total-requires-clause-arc
across-total-requires-clause-arc c = grind (arith, common_steps)

pub across-total-requires-clause-out : goal.across-total-requires-clause-out
across-total-requires-clause-out c = grind (arith)
