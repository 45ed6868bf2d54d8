use Rattle.std.proofs.Common.{◌≡◌, List, All, sym, subst, arith}
use Rattle.std.proofs.lemmas.Grind.{common_steps}
use Rattle.std.proofs.lemmas.Result.{IfOk-weaker}
use Rattle.net_normal.specs.Limits.{IsSized, cost_limit}
use Rattle.net_normal.specs.declared.problem.FlowArc.{FlowArc}
use Rattle.net_normal.specs.declared.problem.Problem.{Problem}
use Rattle.net_solve.proofs.Costs.{small-certificate}
use Rattle.net_solve.proofs.primal_dual.settle.Goals as goal

-- each cost is within the limit
costs : (problem : Problem) (arcs : List FlowArc) → arcs ≡ problem.arcs.items → All (λ arc. IsSized cost_limit arc.cost) arcs
costs problem arcs e = subst (All (λ arc. IsSized cost_limit arc.cost)) (sym e) (λ k d l. (problem.arcs_fit k d l).cost)

pub balance-requires-clause-most : goal.balance-requires-clause-most
balance-requires-clause-most c = c.greatest_cost-most.ensures.least cost_limit (costs c.args.problem.now c.deref.result.now c.deref.ensures.value)

pub close_gaps-requires-clause-most : goal.close_gaps-requires-clause-most
close_gaps-requires-clause-most c = c.greatest_cost-most.ensures.least cost_limit (costs c.args.problem.now c.deref.result.now c.deref.ensures.value)

pub returns-clause-bounded : goal.returns-clause-bounded
returns-clause-bounded c =
    IfOk-weaker c.settled.result _ _ (λ certificate same.
    small-certificate c.args.problem.now certificate c.close_gaps.new.self.potentials.items c.greatest_cost-most.result same c.in_ok-close_gaps.ensures.potentials
    (λ most all. c.greatest_cost-most.ensures.least most (subst (All (λ arc. IsSized most arc.cost)) (sym c.deref.ensures.value) all))) c.settled.ensures.same

pub greatest_cost-most-requires : goal.greatest_cost-most-requires
greatest_cost-most-requires c = grind (arith, common_steps)

pub settled-requires-clause-under_way : goal.settled-requires-clause-under_way
settled-requires-clause-under_way c = grind (arith, common_steps)

pub returns-clause-certificate : goal.returns-clause-certificate
returns-clause-certificate c = grind (arith, common_steps)

pub close_gaps-requires-clause-under_way : goal.close_gaps-requires-clause-under_way
close_gaps-requires-clause-under_way c = grind (arith, common_steps)

pub balance-requires-clause-costs : goal.balance-requires-clause-costs
balance-requires-clause-costs c = grind (arith, common_steps)

pub settled-requires-clause-no_excess : goal.settled-requires-clause-no_excess
settled-requires-clause-no_excess c = grind (arith, common_steps)

pub returns-in-Some-clause-certificate : goal.returns-in-Some-clause-certificate
returns-in-Some-clause-certificate c = grind (arith, common_steps)

pub close_gaps-requires-clause-costs : goal.close_gaps-requires-clause-costs
close_gaps-requires-clause-costs c = grind (arith, common_steps)

pub returns-in-Some-clause-bounded : goal.returns-in-Some-clause-bounded
returns-in-Some-clause-bounded c = grind (arith, common_steps)
