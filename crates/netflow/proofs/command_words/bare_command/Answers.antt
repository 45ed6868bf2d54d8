use Rattle.std.proofs.Common.{◌≡◌, rules, ap, ◌∙◌, codes, true, false}
use Rattle.clap.specs.Simple.{App, app_of, app_of_fields, new_app}
use Rattle.netflow.proofs.command_words.bare_command.Goals as goal

pub returns : goal.returns
returns c =
    let new : app_of c.new.result ≡ new_app (codes "netflow") = c.new.ensures.app ∙ search rules in
    let versioned = ap app_of_fields c.version.ensures ∙ ap (λ (a : App). record a { top = record a.top { has_version = true } }) new in
    let named = ap app_of_fields c.about.ensures ∙ versioned in
    let helped = ap app_of_fields c.after_help.ensures ∙ named in
    let needed = ap app_of_fields c.subcommand_required.ensures ∙ ap (λ (a : App). record a { top = record a.top { subcommand_required = true } }) helped in (
      ap app_of_fields c.arg_required_else_help.ensures ∙ ap (λ (a : App). record a { top = record a.top { arg_required_else_help = true } }) needed,
      ap (λ f. f.has_globals) c.arg_required_else_help.ensures ∙ (ap (λ f. f.has_globals) c.subcommand_required.ensures
          ∙ (ap (λ f. f.has_globals) c.after_help.ensures ∙ (ap (λ f. f.has_globals) c.about.ensures ∙ (ap (λ f. f.has_globals) c.version.ensures ∙ c.new.ensures.local)))),
    )
