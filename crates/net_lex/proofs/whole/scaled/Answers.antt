use Rattle.std.proofs.Common.{◌-◌, ◌<◌, sym, arith}
use Rattle.net_lex.proofs.Tens.{ten_large}
use Rattle.net_lex.proofs.WholeValues.{value_too_large}
use Rattle.net_lex.proofs.whole.scaled.Goals as goal

pub returns-then-places-gt12 : goal.returns-then-places-gt12
returns-then-places-gt12 c =
    let some : 0 < c.args.digits = omega arith in
    let far : 12 < c.args.up - c.args.down = omega arith in
    sym (value_too_large _ _ _ _ some (omega arith) (omega (arith, ten_large c.args.digits (c.args.up - c.args.down) 0 some far)))
