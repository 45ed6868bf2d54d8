use Rattle.netflow.specs.CommandLine.{compile_app, solve_app, min_app, check_app, bare_app}
use Rattle.netflow.proofs.command_words.command.Goals as goal

pub returns : goal.returns
returns c =
    let first = c.with_subcommand-with_solve.ensures bare_app solve_app c.bare_command.ensures c.solve_command.ensures in
    let second = c.with_subcommand-with_compile.ensures _ compile_app first c.compile_command.ensures in
    let third = c.with_subcommand-with_min.ensures _ min_app second c.min_command.ensures in
    c.with_subcommand.ensures _ check_app third c.check_command.ensures
