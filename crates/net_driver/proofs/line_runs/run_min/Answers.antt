use Rattle.std.proofs.Common.{rules, arith, refl, []}
use Rattle.net_driver.specs.Checked.{IsProblemRejection}
use Rattle.net_driver.specs.Settled.{Settles, settled_exit_kind}
use Rattle.net_driver.proofs.Reading.{read_whole}
use Rattle.net_driver.proofs.Running.{texts_of, rejected_run}
use Rattle.net_driver.proofs.line_runs.run_min.Goals as goal

pub returns-in-Ok : goal.returns-in-Ok
returns-in-Ok g c =
    let gave = c.in_ok-reading.ensures.value in
    let settles : Settles gave.text c.in_ok-settled.settled c.in_ok-settled.text.items = c.in_ok-settled.ensures.value gave.text gave.known in
    record {
      run = record {
        ok = record {
          texts = texts_of [] [] gave.text [];
          read = (read_whole _ _ _ gave.read settles.is_problem.short, tt);
          text = c.in_ok-settled.text.items;
          answer = (c.in_ok-settled.settled, settles, c.settled_exit_kind-exit_kind.ensures);
          written = search rules;
        };
        err = tt;
        unread = (grind (arith), tt);
        unwritten = grind (arith);
        reads = (search rules, tt);
      };
    }

pub returns : goal.returns
returns g c =
    let gave = c.in_ok-reading.ensures.value in
    let settles : Settles gave.text c.in_ok-settled.settled c.in_ok-settled.text.items = c.in_ok-settled.ensures.value gave.text gave.known in
    record {
      run = record {
        ok = tt;
        err = (
          settled_exit_kind c.in_ok-settled.settled,
          record {
            texts = texts_of [] [] gave.text [];
            read = (read_whole _ _ _ gave.read settles.is_problem.short, tt);
            text = c.in_ok-settled.text.items;
            answer = (c.in_ok-settled.settled, settles, refl);
            written = search rules;
          },
        );
        unread = (grind (arith), tt);
        unwritten = grind (arith);
        reads = (search rules, tt);
      };
    }

pub returns-in_err-settled : goal.returns-in_err-settled
returns-in_err-settled g c =
    let gave = c.in_ok-reading.ensures.value in
    let wrong : IsProblemRejection gave.text c.in_err-settled.field-0.0 = c.in_err-settled.ensures.rejected gave.text gave.known in
    record {
      run = rejected_run _ _ _ _ (texts_of [] [] gave.text []) (λ name h. h) (λ h. h) (gave.read, tt) refl (grind (arith), tt) (grind (arith)) (c.in_ok-reading.ensures.reads, tt)
          c.in_err-settled.field-0.0 wrong _ _ (λ e h. h) c.from_residual-in_err-settled.ensures.1;
    }
