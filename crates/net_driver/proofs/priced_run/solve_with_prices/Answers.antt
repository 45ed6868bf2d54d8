use Rattle.std.proofs.Common.{sym, subst}
use Rattle.std.proofs.lemmas.Result.{IfOk-weaker}
use Rattle.net_driver.specs.CompiledNetwork.{written}
use Rattle.net_driver.specs.PricedPlans.{IsPricedOutcome}
use Rattle.net_driver.proofs.Answered.{outcome_holds}
use Rattle.net_driver.proofs.Priced.{priced_of}
use Rattle.net_inst.proofs.Aiming.{have_objective}
use Rattle.net_driver.proofs.priced_run.solve_with_prices.Goals as goal

pub returns : goal.returns
returns c = λ lean wanted m d from.
    let compiled = written c.args.network.now in
    let settled = c.in_ok-settled.settled in
    let by = c.in_ok-settled.ensures in
    IfOk-weaker c.priced_outcome.result _ _ (λ priced both. (
      record { compiled = from.0; outcome = outcome_holds lean wanted m d compiled settled priced.outcome have_objective from.0 by.certificate by.optimal by.cut both.0 },
      subst (λ n. IsPricedOutcome n compiled priced.outcome priced.text.items) (sym from.1)
          (priced_of c.args.instance.now compiled settled priced.outcome priced.text.items from.0.node_names.ordered from.0.arc_names.ordered by.certificate both),
    )) c.priced_outcome.ensures
