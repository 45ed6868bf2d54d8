use Rattle.std.proofs.Common.{◌<◌, sym, arith}
use Rattle.net_lex.proofs.ScanLemmas.{front_found, front_rejected, long_error_code}
use Rattle.net_lex.proofs.scan.token_at.Goals as goal

pub fault_at-requires-clause-from : goal.fault_at-requires-clause-from
fault_at-requires-clause-from c =
    let reported = front_rejected c.args.language c.args.text.now c.in-Err.stop c.utf8.text c.requires.some (sym c.in-Err.ensures) in
    omega (arith, reported.within, reported.order, c.requires.room)

pub fault_at-requires-clause-to : goal.fault_at-requires-clause-to
fault_at-requires-clause-to c =
    let reported = front_rejected c.args.language c.args.text.now c.in-Err.stop c.utf8.text c.requires.some (sym c.in-Err.ensures) in
    omega (arith, reported.within, c.requires.room)

pub fault_at-requires-in-Ok-clause-to : goal.fault_at-requires-in-Ok-clause-to
fault_at-requires-in-Ok-clause-to c =
    let found = front_found c.args.language c.args.text.now c.in-Ok.field-0-0 c.in-Ok.len c.utf8.text c.requires.some (sym c.in-Ok.ensures) in
    omega (arith, found.within, c.requires.room)

pub returns-in-Err : goal.returns-in-Err
returns-in-Err c =
    let reported = front_rejected c.args.language c.args.text.now c.in-Err.stop c.utf8.text c.requires.some (sym c.in-Err.ensures) in
    record { token = rw (c.fault_at.ensures.error_code) (c.in-Err.stop.from, c.in-Err.stop.to, reported.error_code, c.fault_at.ensures.span); value = tt }

pub returns-in-Ok : goal.returns-in-Ok
returns-in-Ok c =
    let text = c.args.text.now in
    let found = front_found c.args.language text c.in-Ok.field-0-0 c.in-Ok.len c.utf8.text c.requires.some (sym c.in-Ok.ensures) in
    let far : 255 < c.in-Ok.len = omega arith in
    record { token = rw (c.fault_at-in-Ok.ensures.error_code) (0, c.in-Ok.len, long_error_code c.args.language text c.in-Ok.field-0-0 c.in-Ok.len found far, c.fault_at-in-Ok.ensures.span); value = tt }
