use Rattle.std.proofs.Common.{◌<◌, arith}
use Rattle.std.proofs.lemmas.Grind.{common_steps}
use Rattle.net_lex.proofs.Tens.{ten_large}
use Rattle.net_lex.proofs.significand.grown.Goals as goal

pub returns-then-places-gt12 : goal.returns-then-places-gt12
returns-then-places-gt12 c =
    let some : 0 < c.args.digits = omega arith in
    let far : 12 < c.args.places = omega arith in
    omega (arith, ten_large c.args.digits c.args.places c.args.digit some far)

pub overflow_add-all : goal.overflow_add-all
overflow_add-all c = grind (arith, common_steps)

pub returns-else-places-gt12 : goal.returns-else-places-gt12
returns-else-places-gt12 c = grind (arith, common_steps)
