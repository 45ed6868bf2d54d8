use Rattle.std.proofs.Common.{rules, ap, ◌∙◌, codes}
use Rattle.std.proofs.lemmas.Result.{IfOk-weaker}
use Rattle.clap.specs.Simple.{app_of_fields, new_app}
use Rattle.netflow.specs.CommandLine.{IsApp, lean_rule, objective_rule, path_rule, prices_rule}
use Rattle.netflow.proofs.Commands.{with_arg}
use Rattle.netflow.proofs.command_words.solve_command.Goals as goal

pub returns : goal.returns
returns c =
    let bare : IsApp (new_app (codes "solve")) c.after_help.result = (
      ap app_of_fields c.after_help.ensures ∙ (ap app_of_fields c.about.ensures ∙ (c.new.ensures.app ∙ search rules)),
      ap (λ f. f.has_globals) c.after_help.ensures ∙ (ap (λ f. f.has_globals) c.about.ensures ∙ c.new.ensures.local),
    ) in
    let first = with_arg c.after_help.result c.in_ok-arg.field-0 c.path.result _ (path_rule (codes "MODEL")) bare (search rules) c.path.ensures.local c.in_ok-arg.ensures in
    let second = with_arg c.in_ok-arg.field-0 c.in_ok-arg-2.field-0 c.path-2.result _ (path_rule (codes "DATA")) first (search rules) c.path-2.ensures.local c.in_ok-arg-2.ensures in
    let third = with_arg c.in_ok-arg-2.field-0 c.in_ok-arg-3.field-0 c.objective.result _ objective_rule second (search rules) c.objective.ensures.local c.in_ok-arg-3.ensures in
    let fourth = with_arg c.in_ok-arg-3.field-0 c.in_ok-arg-4.field-0 c.lean.result _ lean_rule third (search rules) c.lean.ensures.local c.in_ok-arg-4.ensures in
    IfOk-weaker c.arg-5.result _ _ (λ made adds. with_arg c.in_ok-arg-4.field-0 made c.prices.result _ prices_rule fourth (search rules) c.prices.ensures.local adds) c.arg-5.ensures
