use Rattle.std.proofs.Common.{inl, sym, ap}
use Rattle.netflow.specs.Calls.{compiled_exit_kind}
use Rattle.netflow.proofs.program.compile_files.Goals as goal

-- the return of an error
pub returns : goal.returns
returns g c =
    let ran = c.run_compile_with in
    let same = sym (ap compiled_exit_kind c.in-Err.is) in
    inl (
      c.in-Some.model,
      c.in-Some.ensures.opened,
      inl (
        c.in-Some-open.data,
        c.in-Some-open.ensures.opened,
        (ran.new.model, ran.new.data, (ran.result, ran.ensures.run, same), ran.ensures.first),
      ),
    )
