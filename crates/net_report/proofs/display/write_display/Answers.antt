use Rattle.std.proofs.Common.{◌≡◌, ap, ◌∙◌, to_z, of_z, FitsSigned, rules, arith}
use Rattle.std.proofs.lemmas.Grind.{common_steps}
use Rattle.std.proofs.lemmas.Int.{to_z-of_z}
use Rattle.std.proofs.lemmas.Result.{IfOk-weaker}
use mir.Syntax.{w128}
use Rattle.net_report.specs.Displays.{display_text, display_of_all}
use Rattle.net_report.proofs.InOrder.{shows_all}
use Rattle.net_report.proofs.display.write_display.Goals as goal

pub returns-clause-all : goal.returns-clause-all
returns-clause-all c =
    let names = c.args.names.now in
    let numbers = c.args.assignment.now in
    let fits : FitsSigned w128 c.args.value = search rules in
    let passed : to_z w128 (of_z w128 c.args.value) ≡ c.args.value = to_z-of_z w128 c.args.value fits in
    λ h. IfOk-weaker c.write_plan.result (λ text. text.items ≡ display_text names numbers (to_z w128 (of_z w128 c.args.value))) (λ text. text.items ≡ display_of_all names numbers c.args.value)
    (λ text e. e ∙ ap (display_text names numbers) passed ∙ shows_all names numbers c.args.value h) c.write_plan.ensures

pub returns-clause-value : goal.returns-clause-value
returns-clause-value c = grind (arith, common_steps)
