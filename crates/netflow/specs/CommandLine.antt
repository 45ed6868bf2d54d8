-- The command line: which call the arguments request, in terms of clap's specification.
use Rattle.std.specs.Prelude.{◌≡◌, ◌≢◌, ◌∷◌, [], List, ℕ, Bool, Option, None, Some, map, codes, true, false, string_bytes, option_map, slice_get, unwrap_or, ⊤, ◌⊎◌}
use Rattle.std.specs.Option.{option_copied, option_map_or}
use Rattle.std.specs.Str.{bytes_eq}
use Rattle.clap.specs.Words.{App, Row, Rule, Text, app_of, first_of, new_app, new_rule, subcommand_of, with_rule, with_subcommand, IsAmong, fault_of, kind_of}
use Rattle.clap.specs.declared.builder.command.Command.{Command}
use Rattle.clap.specs.declared.builder.command.Command.TheViews.{out-Command}
use Rattle.clap.specs.declared.builder.ArgAction.TheVariants.{Set, SetTrue}
use Rattle.clap.specs.declared.error.kind.ErrorKind.TheVariants as kinds
use Rattle.netflow.specs.declared.command_words.Action.{Action}
use Rattle.netflow.specs.declared.command_words.Action.TheVariants.{Compile, Solve, Min, Check}
use Rattle.netflow.specs.declared.command_words.CommandWords.{CommandWords}
use Rattle.netflow.specs.declared.command_words.WordsFault.{WordsFault}
use Rattle.netflow.specs.declared.command_words.WordsFault.TheVariants as faults
use Rattle.netflow.specs.declared.call.Call.{Call}
use Rattle.netflow.specs.declared.call.Call.TheVariants as calls

-- a required path
abbrev pub path_rule : Text → Rule
path_rule name = record (new_rule name) { required = true; action = Some Set }

-- `--objective NAME`, optional
abbrev pub objective_rule : Rule
objective_rule = record (new_rule (codes "NAME")) { long = Some (codes "objective"); action = Some Set }

-- `--lean`, a flag without a value
abbrev pub lean_rule : Rule
lean_rule = record (new_rule (codes "lean")) { long = Some (codes "lean"); action = Some SetTrue }

-- `--prices`, a flag without a value
abbrev pub prices_rule : Rule
prices_rule = record (new_rule (codes "prices")) { long = Some (codes "prices"); action = Some SetTrue }

abbrev pub model_app : Text → App
model_app name = with_rule (with_rule (with_rule (with_rule (new_app name) (path_rule (codes "MODEL"))) (path_rule (codes "DATA"))) objective_rule) lean_rule

abbrev pub compile_app : App
compile_app = model_app (codes "compile")

abbrev pub solve_app : App
solve_app = with_rule (model_app (codes "solve")) prices_rule

abbrev pub min_app : App
min_app = with_rule (new_app (codes "min")) (path_rule (codes "PROBLEM"))

abbrev pub check_app : App
check_app = with_rule (with_rule (new_app (codes "check")) (path_rule (codes "PROBLEM"))) (path_rule (codes "CERTIFICATE"))

-- a subcommand is required; the program has a version, so `--version` and `-V` are available
abbrev pub bare_app : App
bare_app = record (new_app (codes "netflow")) { top = record (new_app (codes "netflow")).top { subcommand_required = true; arg_required_else_help = true; has_version = true } }

abbrev pub netflow_app : App
netflow_app = with_subcommand (with_subcommand (with_subcommand (with_subcommand bare_app solve_app.top) compile_app.top) min_app.top) check_app.top

abbrev pub action_word : Action → Text
action_word Compile = codes "compile"
action_word Solve = codes "solve"
action_word Min = codes "min"
action_word Check = codes "check"

-- no subcommand has this name
abbrev pub IsNoAction : Text → Type 0
IsNoAction name = (action : Action) → action_word action ≢ name

-- the names of a subcommand's path arguments, in order
abbrev pub path_names : Action → List Text
path_names Compile = codes "MODEL" ∷ codes "DATA" ∷ []
path_names Solve = codes "MODEL" ∷ codes "DATA" ∷ []
path_names Min = codes "PROBLEM" ∷ []
path_names Check = codes "PROBLEM" ∷ codes "CERTIFICATE" ∷ []

-- the command is this one, and has no global arguments
abbrev pub IsApp : App → Command → Type 0
IsApp app command = (app_of command ≡ app) × ((out-Command command).has_globals ≡ false)

-- the value given for this name
abbrev pub given : List Row → Text → Text
given rows name = unwrap_or (first_of name rows) []

-- the value of `--objective`, if given, for a subcommand that has this option; an empty name is a
-- name
abbrev pub asked_objective : Action → List Row → Option Text
asked_objective Compile rows = first_of (codes "NAME") rows
asked_objective Solve rows = first_of (codes "NAME") rows
asked_objective Min rows = None
asked_objective Check rows = None

-- the flag is given: clap's value for it is `true`
abbrev pub is_set : List Row → Text → Bool
is_set rows name = option_map_or (λ value. bytes_eq value (codes "true")) (first_of name rows) false

-- the lean form is requested, for a subcommand that has this flag
abbrev pub asked_lean : Action → List Row → Bool
asked_lean Compile rows = is_set rows (codes "lean")
asked_lean Solve rows = is_set rows (codes "lean")
asked_lean Min rows = false
asked_lean Check rows = false

-- prices are requested; only `solve` has this flag
abbrev pub asked_prices : Action → List Row → Bool
asked_prices Compile rows = false
asked_prices Solve rows = is_set rows (codes "prices")
asked_prices Min rows = false
asked_prices Check rows = false

-- clap accepts these arguments, and this is the subcommand that it parses from them, with the values
-- of its path arguments in order
pub record IsAskedBy (words : List Text) (asked : CommandWords) : Type 0 where
  pub accepted : fault_of netflow_app words ≡ []
  pub rows : List Row
  pub subcommand : subcommand_of netflow_app words ≡ Some (action_word asked.command, rows)
  pub paths : map string_bytes asked.paths.items ≡ map (given rows) (path_names asked.command)
  pub objective : option_map string_bytes asked.objective ≡ asked_objective asked.command rows
  pub lean : asked.lean ≡ asked_lean asked.command rows
  pub prices : asked.prices ≡ asked_prices asked.command rows

-- clap accepts these arguments, and their subcommand is one of the four
pub record IsValid (words : List Text) : Type 0 where
  pub accepted : fault_of netflow_app words ≡ []
  pub action : Action
  pub rows : List Row
  pub subcommand : subcommand_of netflow_app words ≡ Some (action_word action, rows)

-- help or the version is requested
abbrev pub AsksForHelp : List Text → Type 0
AsksForHelp words = IsAmong kinds.DisplayHelp (fault_of netflow_app words) ⊎ IsAmong kinds.DisplayVersion (fault_of netflow_app words)

-- the error for arguments without a subcommand
abbrev pub IsMissing : WordsFault → Type 0
IsMissing faults.OutOfMemory = ⊤
IsMissing (faults.Usage error) = kind_of error ≡ kinds.MissingSubcommand

-- why arguments are not a request: clap reports an error of this kind for them; or the error is that
-- of a missing subcommand, and they are invalid
abbrev pub IsRejection : List Text → WordsFault → Type 0
IsRejection words faults.OutOfMemory = ⊤
IsRejection words (faults.Usage error) = IsAmong (kind_of error) (fault_of netflow_app words) ⊎ ((kind_of error ≡ kinds.MissingSubcommand) × (¬ IsValid words))

-- the path with this index
abbrev pub path_at : CommandWords → ℕ → Text
path_at asked at = unwrap_or (option_map string_bytes (slice_get asked.paths.items at)) []

-- the call of the requested subcommand, with its paths in order
abbrev pub IsCallOf : CommandWords → Call → Type 0
IsCallOf asked (calls.Compile model other options) =
    (asked.command ≡ Compile) × (model.now ≡ path_at asked 0) × (other.now ≡ path_at asked 1) × (options.lean ≡ asked.lean) × (option_copied options.objective ≡ option_map string_bytes asked.objective)
IsCallOf asked (calls.Solve model other options) =
    (asked.command ≡ Solve) × (asked.prices ≡ false) × (model.now ≡ path_at asked 0) × (other.now ≡ path_at asked 1) × (options.lean ≡ asked.lean) × (option_copied options.objective ≡ option_map string_bytes asked.objective)
IsCallOf asked (calls.SolveWithPrices model other options) =
    (asked.command ≡ Solve) × (asked.prices ≡ true) × (model.now ≡ path_at asked 0) × (other.now ≡ path_at asked 1) × (options.lean ≡ asked.lean) × (option_copied options.objective ≡ option_map string_bytes asked.objective)
IsCallOf asked (calls.Min problem) = (asked.command ≡ Min) × (problem.now ≡ path_at asked 0)
IsCallOf asked (calls.Check problem certificate) = (asked.command ≡ Check) × (problem.now ≡ path_at asked 0) × (certificate.now ≡ path_at asked 1)
