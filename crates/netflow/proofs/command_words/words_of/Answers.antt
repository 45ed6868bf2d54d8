use Rattle.std.proofs.Common.{◌≡◌, true, false, map, string_bytes, Ok, Err, inl, inr, sym, ◌∙◌, rules}
use Rattle.std.proofs.lemmas.Bool.{false≢true}
use Rattle.clap.specs.declared.error.kind.ErrorKind.TheVariants.{OutOfMemory}
use Rattle.clap.specs.Matches.{found_of}
use Rattle.clap.specs.Walk.{rows_of}
use Rattle.clap.specs.declared.parser.matches.ArgMatches.{ArgMatches}
use Rattle.netflow.specs.CommandLine.{IsValid}
use Rattle.netflow.proofs.Commands.{entered, fails_by, rejects}
use Rattle.netflow.proofs.Rows.{both_rows, same_name}
use Rattle.netflow.proofs.command_words.words_of.Goals as goal

pub returns-clause-value : goal.returns-clause-value
returns-clause-value c = record {
  accepted = fails_by {T = ArgMatches} c.in_ok-command.command (map string_bytes c.args.words.now) (Ok c.in-Ok.matches) c.in_ok-command.ensures c.in-Ok.ensures.kinds;
  rows = rows_of (found_of c.in-Some.found.now);
  subcommand = search rules;
  paths = c.in_ok-paths.ensures;
  objective = c.in_ok-objective.ensures;
  lean = c.lean_of-lean.ensures;
  prices = c.prices_of-prices.ensures;
}

pub returns-in-Err-2-clause-rejected : goal.returns-in-Err-2-clause-rejected
returns-in-Err-2-clause-rejected c =
    let kinds = fails_by {T = ArgMatches} c.in_ok-command.command (map string_bytes c.args.words.now) (Err c.in-Err.error) c.in_ok-command.ensures c.in-Err.ensures.kinds in
    elim kinds [
      | inl no_memory ↦ let is : c.kind.result ≡ OutOfMemory = c.kind.ensures ∙ no_memory in
          let never : false ≡ true = rw is at c.if-eq.ensures in
          absurd (false≢true never)
      | inr among ↦ inl among
    ]

pub returns-in_default-action_of-clause-rejected : goal.returns-in_default-action_of-clause-rejected
returns-in_default-action_of-clause-rejected c =
    let words = map string_bytes c.args.words.now in
    let met = entered c.in_ok-command.command words c.in-Ok.matches c.in_ok-command.ensures c.in-Ok.ensures.ok.2 in
    let rows = rows_of (found_of c.in-Some.found.now) in
    let named = sym met ∙ both_rows c.in-Ok.matches c.in-Some.name.now rows c.in-Some.ensures.name c.in-Some.ensures.rows in
    rejects words c.no_command-in_default-action_of.result c.no_command-in_default-action_of.ensures (λ (valid : IsValid words).
    c.in_default-action_of.ensures.none valid.action (same_name _ _ _ _ (sym valid.subcommand ∙ named)))
