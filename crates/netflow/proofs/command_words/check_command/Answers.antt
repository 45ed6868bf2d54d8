use Rattle.std.proofs.Common.{rules, ap, ◌∙◌, codes}
use Rattle.std.proofs.lemmas.Result.{IfOk-weaker}
use Rattle.clap.specs.Simple.{app_of_fields, new_app}
use Rattle.netflow.specs.CommandLine.{IsApp, path_rule}
use Rattle.netflow.proofs.Commands.{with_arg}
use Rattle.netflow.proofs.command_words.check_command.Goals as goal

pub returns : goal.returns
returns c =
    let bare : IsApp (new_app (codes "check")) c.after_help.result = (
      ap app_of_fields c.after_help.ensures ∙ (ap app_of_fields c.about.ensures ∙ (c.new.ensures.app ∙ search rules)),
      ap (λ f. f.has_globals) c.after_help.ensures ∙ (ap (λ f. f.has_globals) c.about.ensures ∙ c.new.ensures.local),
    ) in
    let first = with_arg c.after_help.result c.in_ok-arg.field-0 c.path.result _ (path_rule (codes "PROBLEM")) bare (search rules) c.path.ensures.local c.in_ok-arg.ensures in
    IfOk-weaker c.arg-2.result _ _ (λ made adds. with_arg c.in_ok-arg.field-0 made c.path-2.result _ (path_rule (codes "CERTIFICATE")) first (search rules) c.path-2.ensures.local adds) c.arg-2.ensures
