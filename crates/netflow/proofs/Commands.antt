-- Commands that are built step by step.
use Rattle.std.proofs.Common.{◌≡◌, ◌||◌, Bool, true, false, List, Result, refl, ap, ap₂, subst, inr, ◌∙◌}
use Rattle.clap.specs.Words.{FailsBy, fault_of, is_simple_and_free}
use Rattle.clap.specs.declared.error.Error.{Error}
use Rattle.clap.specs.Built.{AddsArg, AddsSubcommand}
use Rattle.clap.specs.Words.{App, Rule, Text, app_of, is_simple, rule_of, with_rule, with_subcommand, HasMatchesOf, subcommand_of, subcommand_rows_of}
use Rattle.clap.specs.declared.builder.arg.Arg.{Arg}
use Rattle.clap.specs.declared.builder.command.Command.{Command}
use Rattle.clap.specs.declared.parser.matches.ArgMatches.{ArgMatches}
use Rattle.clap.proofs.OnLiterals.{clap_on_literals}
use Rattle.netflow.specs.CommandLine.{IsApp, IsMissing, IsRejection, IsValid, netflow_app}
use Rattle.netflow.specs.declared.command_words.WordsFault.{WordsFault}
use Rattle.netflow.specs.declared.command_words.WordsFault.TheVariants.{OutOfMemory, Usage}

pub with_arg : (old new : Command) (a : Arg) (app : App) (rule : Rule) → IsApp app old → rule_of a ≡ rule → a.global ≡ false → AddsArg old a new → IsApp (with_rule app rule) new
with_arg old new a app rule is same local adds = (adds.shape local ∙ ap₂ with_rule is.0 same, adds.globals ∙ ap₂ (λ (x y : Bool). x || y) is.1 local)

pub with_sub : (old sub new : Command) (app inner : App) → IsApp app old → IsApp inner sub → AddsSubcommand old sub new → IsApp (with_subcommand app inner.top) new
with_sub old sub new app inner is has adds =
    (adds.shape has.1 ∙ ap₂ with_subcommand is.0 (ap (λ (a : App). a.top) has.0), adds.globals ∙ ap₂ (λ (x y : Bool). x || y) is.1 has.1)

netflow_is_simple : is_simple netflow_app ≡ true
unfolding clap_on_literals
netflow_is_simple = refl

-- the subcommand that a parse of the whole command entered
pub entered : (command : Command) (words : List Text) (m : ArgMatches) → IsApp netflow_app command → HasMatchesOf (app_of command) words m → subcommand_rows_of m ≡ subcommand_of netflow_app words
entered command words m is has = (has (ap is_simple is.0 ∙ netflow_is_simple)).1 ∙ ap (λ a. subcommand_of a words) is.0

netflow_is_free : is_simple_and_free netflow_app ≡ true
unfolding clap_on_literals
netflow_is_free = refl

-- which errors a parse of the whole command can have
pub fails_by : {T : Type 0} (command : Command) (words : List Text) (r : Result T Error) → IsApp netflow_app command
    → (is_simple_and_free (app_of command) ≡ true → FailsBy (fault_of (app_of command) words) r) → FailsBy (fault_of netflow_app words) r
fails_by command words r is fails = subst (λ a. FailsBy (fault_of a words) r) is.0 (fails (ap is_simple_and_free is.0 ∙ netflow_is_free))

pub rejects : (words : List Text) (fault : WordsFault) → IsMissing fault → ¬ IsValid words → IsRejection words fault
rejects words OutOfMemory missing invalid = tt
rejects words (Usage error) missing invalid = inr (missing, invalid)
