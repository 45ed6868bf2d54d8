use Rattle.std.proofs.Common.{◌≡◌, ◌-◌, List, subst, arith, rules}
use Rattle.std.proofs.lemmas.Grind.{common_steps}
use Rattle.std.specs.List.{AllZip}
use Rattle.net_normal.specs.Flows.{IsFeasibleFlow, IsWithinCapacity, cost_of}
use Rattle.net_normal.specs.declared.problem.FlowArc.{FlowArc}
use Rattle.net_check.specs.Certificates.{HasFlowShape, IsComplementary}
use Rattle.net_check.specs.FirstFaults.{ArcKeeps, IsFirstFailing, IsSlack}
use Rattle.net_check.proofs.Verdicts.{slack-is_fault}
use Rattle.net_check.proofs.checker.check_flow.Goals as goal

pub returns-clause-no : goal.returns-clause-no
returns-clause-no c = λ reason number e.
    let problem = c.args.problem.now in
    let flows = c.args.flows.now in
    let potentials = c.args.potentials.now in
    let arcs : c.deref-2.result.now ≡ problem.arcs.items = c.deref-2.ensures.value in
    let shape : HasFlowShape problem flows potentials = record { one_an_arc = omega (arith, c.if-flows-len.false, c.len.ensures); one_a_node = omega (arith, c.if-potentials-len.false, c.len-else-flows-len.ensures) } in
    let feasible : IsFeasibleFlow problem flows = record {
      capacity = subst (λ (bs : List FlowArc). AllZip IsWithinCapacity bs flows) c.deref.ensures.value c.in_default.ensures.none;
      balance = c.in_default-first_unbalanced.ensures.none;
    } in
    let cost : c.args.value.now ≡ cost_of problem flows = search rules in
    slack-is_fault problem c.args.value.now flows potentials reason number shape feasible cost
    (subst (λ (bs : List FlowArc). IsFirstFailing (ArcKeeps (IsComplementary potentials) bs flows) number) arcs (c.check_slackness.ensures.no reason number e))
    (subst (λ (bs : List FlowArc). ArcKeeps (λ arc flow. IsSlack potentials arc flow reason) bs flows (number - 1)) arcs (c.check_slackness.ensures.reason reason number e))

pub returns-clause-yes : goal.returns-clause-yes
returns-clause-yes c = λ e.
    let problem = c.args.problem.now in
    let flows = c.args.flows.now in
    let potentials = c.args.potentials.now in
    record {
      one_a_node = omega (arith, c.if-potentials-len.false, c.len-else-flows-len.ensures);
      feasible = record {
        capacity = subst (λ (bs : List FlowArc). AllZip IsWithinCapacity bs flows) c.deref.ensures.value c.in_default.ensures.none;
        balance = c.in_default-first_unbalanced.ensures.none;
      };
      cost = search rules;
      slackness = subst (λ (bs : List FlowArc). AllZip (IsComplementary potentials) bs flows) c.deref-2.ensures.value (c.check_slackness.ensures.yes e);
    }

pub returns-then-flows-len-clause-yes : goal.returns-then-flows-len-clause-yes
returns-then-flows-len-clause-yes c = grind (arith, common_steps)

pub check_slackness-requires-clause-one_each : goal.check_slackness-requires-clause-one_each
check_slackness-requires-clause-one_each c = grind (arith, common_steps)

pub returns-in-Some-clause-no : goal.returns-in-Some-clause-no
returns-in-Some-clause-no c = grind (arith, common_steps)

pub returns-in-Some-first_unbalanced-clause-no : goal.returns-in-Some-first_unbalanced-clause-no
returns-in-Some-first_unbalanced-clause-no c = grind (arith, common_steps)

pub check_slackness-requires-clause-arcs : goal.check_slackness-requires-clause-arcs
check_slackness-requires-clause-arcs c = grind (arith, common_steps)

pub first_out_of_bounds-requires-clause-one_each : goal.first_out_of_bounds-requires-clause-one_each
first_out_of_bounds-requires-clause-one_each c = grind (arith, common_steps)

pub cost-requires : goal.cost-requires
cost-requires c = grind (arith, common_steps)

pub returns-then-flows-len-clause-no : goal.returns-then-flows-len-clause-no
returns-then-flows-len-clause-no c = grind (arith, common_steps)

pub returns-in-Some-first_unbalanced-clause-yes : goal.returns-in-Some-first_unbalanced-clause-yes
returns-in-Some-first_unbalanced-clause-yes c = grind (arith, common_steps)

pub check_slackness-requires-clause-few : goal.check_slackness-requires-clause-few
check_slackness-requires-clause-few c = grind (arith, common_steps)

pub first_unbalanced-requires : goal.first_unbalanced-requires
first_unbalanced-requires c = grind (arith, common_steps)

pub returns-then-value-cost-clause-yes : goal.returns-then-value-cost-clause-yes
returns-then-value-cost-clause-yes c = grind (arith, common_steps)

pub returns-in-Some-clause-yes : goal.returns-in-Some-clause-yes
returns-in-Some-clause-yes c = grind (arith, common_steps)

pub returns-then-value-cost-clause-no : goal.returns-then-value-cost-clause-no
returns-then-value-cost-clause-no c = grind (arith)
