use Rattle.std.proofs.lemmas.Result.{IfOk-weaker}
use Rattle.net_driver.specs.CompiledNetwork.{written}
use Rattle.net_driver.proofs.Answered.{answers_of}
use Rattle.net_inst.proofs.Aiming.{have_objective}
use Rattle.net_driver.proofs.answer.solve_network.Goals as goal

pub returns : goal.returns
returns c = λ lean wanted m d promise. IfOk-weaker c.outcome_of.result _ _ (λ outcome is.
    answers_of lean wanted m d (written c.args.network.now) c.in_ok-settled.settled outcome have_objective promise
    c.in_ok-settled.ensures.certificate c.in_ok-settled.ensures.optimal c.in_ok-settled.ensures.cut is) c.outcome_of.ensures
