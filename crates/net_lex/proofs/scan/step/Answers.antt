use Rattle.std.proofs.Common.{◌<◌, length, arith}
use Rattle.std.proofs.lemmas.Grind.{common_steps}
use Rattle.net_lex.proofs.ScanLemmas.{gap_before, gap_last, gap_open, step_token, step_fault}
use Rattle.net_lex.proofs.scan.step.Goals as goal

pub token_at-requires-clause-here : goal.token_at-requires-clause-here
token_at-requires-clause-here c =
    let rest = c.args.rest.now in
    let within : c.in-Ok.n < length rest = omega (arith, c.in-Ok.ensures.cut.0) in
    rw (c.split_at.ensures.back) (gap_before rest c.in-Ok.n c.in-Ok.ensures.value within).stops

pub returns-in-Err : goal.returns-in-Err
returns-in-Err c = record { token = gap_open c.args.language c.args.at c.args.rest.now c.in-Err.n c.in-Err.ensures.value c.in-Err.ensures.cut; value = tt }

pub returns-in-Ok : goal.returns-in-Ok
returns-in-Ok c = record { token = gap_last c.args.rest.now c.in-Ok.n c.in-Ok.ensures.value (omega arith); value = tt }

pub returns-in-Ok-token_at : goal.returns-in-Ok-token_at
returns-in-Ok-token_at c =
    let rest = c.args.rest.now in
    let within : c.in-Ok.n < length rest = omega (arith, c.in-Ok.ensures.cut.0) in
    record {
      token = step_token c.args.language c.args.at rest c.in-Ok.n c.in-Ok-token_at.found.0.token c.in-Ok-token_at.found.1.now (gap_before rest c.in-Ok.n c.in-Ok.ensures.value within)
          (rw (← c.split_at.ensures.back) c.in-Ok-token_at.ensures.token);
      value = c.in-Ok-token_at.ensures.value;
    }

pub returns-in-Err-token_at : goal.returns-in-Err-token_at
returns-in-Err-token_at c =
    let rest = c.args.rest.now in
    let within : c.in-Ok.n < length rest = omega (arith, c.in-Ok.ensures.cut.0) in
    record {
      token = step_fault c.args.language c.args.at rest c.in-Ok.n c.in-Err-token_at.fault.0 c.in-Err-token_at.fault.1 (gap_before rest c.in-Ok.n c.in-Ok.ensures.value within)
          (rw (← c.split_at.ensures.back) c.in-Err-token_at.ensures.token);
      value = tt;
    }

pub split_at-requires : goal.split_at-requires
split_at-requires c = grind (arith, common_steps)
