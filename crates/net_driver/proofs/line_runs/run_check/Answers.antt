use Rattle.std.proofs.Common.{rules, arith, refl, []}
use Rattle.net_driver.specs.Checked.{Judges, IsLineRejection, exit_kind_of, verdict_line}
use Rattle.net_driver.proofs.Reading.{read_whole}
use Rattle.net_driver.proofs.Running.{texts_of, rejected_run, stopped_run}
use Rattle.net_driver.proofs.line_runs.run_check.Goals as goal

pub returns-in-Ok-clause-run : goal.returns-in-Ok-clause-run
returns-in-Ok-clause-run g c =
    let gave = c.in_ok-reading.ensures.value in
    let text = c.in_ok-certificate_text.certificate_text.items in
    let verdict = c.in_ok-verdict.verdict in
    let judged : Judges gave.text text verdict = search (rules, c.in_ok-verdict.ensures.value gave.text gave.known) in
    record {
      ok = record {
        texts = texts_of [] [] gave.text text;
        read = (read_whole _ _ _ gave.read judged.is_problem.short, (read_whole _ _ _ c.in_ok-certificate_text.ensures.value judged.is_certificate.short, tt));
        text = verdict_line verdict;
        answer = (verdict, judged, c.exit_kind_of-exit_kind.ensures, refl);
        written = search rules;
      };
      err = tt;
      unread = (grind (arith), (grind (arith), tt));
      unwritten = grind (arith);
      reads = (search rules, (search rules, tt));
    }

pub returns-clause-run : goal.returns-clause-run
returns-clause-run g c =
    let gave = c.in_ok-reading.ensures.value in
    let text = c.in_ok-certificate_text.certificate_text.items in
    let verdict = c.in_ok-verdict.verdict in
    let judged : Judges gave.text text verdict = search (rules, c.in_ok-verdict.ensures.value gave.text gave.known) in
    record {
      ok = tt;
      err = (
        exit_kind_of verdict,
        record {
          texts = texts_of [] [] gave.text text;
          read = (read_whole _ _ _ gave.read judged.is_problem.short, (read_whole _ _ _ c.in_ok-certificate_text.ensures.value judged.is_certificate.short, tt));
          text = verdict_line verdict;
          answer = (verdict, judged, refl, refl);
          written = search rules;
        },
      );
      unread = (grind (arith), (grind (arith), tt));
      unwritten = grind (arith);
      reads = (search rules, (search rules, tt));
    }

pub returns-in_err-verdict-clause-run : goal.returns-in_err-verdict-clause-run
returns-in_err-verdict-clause-run g c =
    let gave = c.in_ok-reading.ensures.value in
    let text = c.in_ok-certificate_text.certificate_text.items in
    let wrong : IsLineRejection gave.text text c.in_err-verdict.field-0.0 = search (rules, c.in_err-verdict.ensures.rejected gave.text gave.known) in
    rejected_run _ _ _ _ (texts_of [] [] gave.text text) (λ name h. h) (λ h. h) (gave.read, (c.in_ok-certificate_text.ensures.value, tt)) refl
    (grind (arith), (grind (arith), tt)) (grind (arith)) (c.in_ok-reading.ensures.reads, (c.in_ok-certificate_text.ensures.reads, tt))
    c.in_err-verdict.field-0.0 wrong _ _ (λ e h. h) c.from_residual-in_err-verdict.ensures.1

pub returns-in_err-line-clause-run : goal.returns-in_err-line-clause-run
returns-in_err-line-clause-run g c =
    stopped_run _ _ _ _ refl (grind (arith), (grind (arith), tt)) (grind (arith)) (c.in_ok-reading.ensures.reads, (c.in_ok-certificate_text.ensures.reads, tt))
    _ _ (λ e h. h) c.from_residual-in_err-line.ensures.1
