use Rattle.std.proofs.Common.{rules}
use Rattle.std.proofs.lemmas.Result.{IfOk-weaker}
use Rattle.netflow.specs.CommandLine.{IsApp}
use Rattle.netflow.proofs.Commands.{with_sub}
use Rattle.netflow.proofs.command_words.with_subcommand.Goals as goal

pub returns : goal.returns
returns c = λ app inner is has.
    let first : IsApp app c.in_ok-program.field-0 = search (rules, is) in
    let second : IsApp inner c.in_ok-subcommand.field-0 = search (rules, has) in
    IfOk-weaker c.subcommand.result _ _ (λ made adds. with_sub c.in_ok-program.field-0 c.in_ok-subcommand.field-0 made app inner first second adds) c.subcommand.ensures
