use Rattle.std.proofs.lemmas.Result.{IfOk-weaker}
use Rattle.net_normal.proofs.Profiles.{lean-no_low, lean-left_out}
use Rattle.net_normal.specs.declared.problem.Problem.{Problem}
use Rattle.net_normal.specs.declared.problem.Link.{Link}
use Rattle.net_normal.proofs.normal_form.normalise_lean.Goals as goal

pub returns-clause-no_low : goal.returns-clause-no_low
returns-clause-no_low c = IfOk-weaker _ _ _ (λ (made : Problem × Link) form. lean-no_low c.args.instance.now made.0 made.1 form) c.form.ensures.value

pub returns-clause-left_out : goal.returns-clause-left_out
returns-clause-left_out c = IfOk-weaker _ _ _ (λ (made : Problem × Link) form. lean-left_out c.args.instance.now made.0 made.1 form) c.form.ensures.value
