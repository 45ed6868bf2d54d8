use Rattle.std.proofs.Common.{inl, inr, refl, map, string_bytes, ◌∙◌, ap, sym}
use Rattle.netflow.specs.Calls.{status_of}
use Rattle.netflow.proofs.program.run_program.Goals as goal
use Rattle.netflow.proofs.program.run_program.Goals.{in-Compile, in-Solve, in-SolveWithPrices, in-Min, in-Check}

pub returns-in-Err : goal.returns-in-Err
returns-in-Err g c = inr (record { idle = c.print_usage.ensures.idle (map string_bytes c.args.words.now) c.in-Err.ensures.rejected; unwritten = refl; printed = c.print_usage.ensures.printed })

pub returns-in-Ok-ran : goal.returns-in-Ok-ran
returns-in-Ok-ran g c = inl (record {
  asked = c.in-Ok.words;
  call = c.call_of.result;
  result = c.match-call_of.ran;
  requested = c.in-Ok.ensures.value;
  chosen = c.call_of.ensures.value;
  run = elim c.match-call_of.branch [
    | in-Compile w ↦ rw (w.output-is, w.in-Compile.is, w.ran-is) w.compile_files-ran.ensures
    | in-Solve w ↦ rw (w.output-is, w.in-Solve.is, w.ran-is) w.solve_files-ran.ensures
    | in-SolveWithPrices w ↦ rw (w.output-is, w.in-SolveWithPrices.is, w.ran-is) w.price_files-ran.ensures
    | in-Min w ↦ rw (w.output-is, w.in-Min.is, w.ran-is) w.min_file-ran.ensures
    | in-Check w ↦ rw (w.output-is, w.in-Check.is, w.ran-is) w.check_files-ran.ensures
  ];
  printed = rw c.in-Ok-ran.is refl;
  answered = c.of_exit_kind.ensures.value ∙ sym (ap status_of c.in-Ok-ran.is);
})

pub returns : goal.returns
returns g c = inl (record {
  asked = c.in-Ok.words;
  call = c.call_of.result;
  result = c.match-call_of.ran;
  requested = c.in-Ok.ensures.value;
  chosen = c.call_of.ensures.value;
  run = elim c.match-call_of.branch [
    | in-Compile w ↦ rw (w.output-is, w.in-Compile.is, w.ran-is) w.compile_files-ran.ensures
    | in-Solve w ↦ rw (w.output-is, w.in-Solve.is, w.ran-is) w.solve_files-ran.ensures
    | in-SolveWithPrices w ↦ rw (w.output-is, w.in-SolveWithPrices.is, w.ran-is) w.price_files-ran.ensures
    | in-Min w ↦ rw (w.output-is, w.in-Min.is, w.ran-is) w.min_file-ran.ensures
    | in-Check w ↦ rw (w.output-is, w.in-Check.is, w.ran-is) w.check_files-ran.ensures
  ];
  printed = rw c.in-Err-ran.is c.print_error.ensures.printed;
  answered = c.print_error.ensures.status ∙ sym (ap status_of c.in-Err-ran.is);
})
