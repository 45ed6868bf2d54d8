use Rattle.std.proofs.Common.{◌<◌, arith}
use Rattle.net_lex.specs.Numerals.{digits_value}
use Rattle.net_lex.proofs.SizeLemmas.{whole_of_digits}
use Rattle.net_lex.proofs.whole.plain_size.Goals as goal

pub returns-then-value-gt-VALUE_LIMIT : goal.returns-then-value-gt-VALUE_LIMIT
returns-then-value-gt-VALUE_LIMIT c =
    let large : 1000000000000 < digits_value c.args.digits.now = omega (arith, c.saturated_value-value.ensures, c.if-value-gt-VALUE_LIMIT.true) in
    (digits_value c.args.digits.now, whole_of_digits _, large)
