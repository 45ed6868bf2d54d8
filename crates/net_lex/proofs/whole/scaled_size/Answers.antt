use Rattle.std.proofs.Common.{◌<◌, ◌^◌, refl, arith}
use Rattle.net_lex.specs.Significands.{Significand}
use Rattle.net_lex.specs.Saturation.{StandsFor}
use Rattle.net_lex.specs.NumeralViews.{parts_view}
use Rattle.net_lex.proofs.SizeLemmas.{significand, sized_positive, sized_negative}
use Rattle.net_lex.proofs.whole.scaled_size.Goals as goal

pub returns-then-parts : goal.returns-then-parts
returns-then-parts c =
    let p = parts_view c.args.parts.now in
    let none : Significand = record { digits = 0; zeros = 0 } in
    let kept : StandsFor 1000000000001 c.with_digits-number.result (significand p) =
    c.with_digits-number.ensures.value _ (c.with_digits.ensures.value none (record { digits = refl; zeros = refl })) in
    let short : (significand p).zeros < 2 ^ 66 = omega (arith, kept.zeros, c.with_digits-number.ensures.room, c.with_digits.ensures.room) in
    rw (c.scaled.ensures, c.power_of-power.ensures, kept.digits, kept.zeros) (sized_negative p c.requires.whole c.requires.fraction c.if-parts.true short)

pub returns-else-parts : goal.returns-else-parts
returns-else-parts c =
    let p = parts_view c.args.parts.now in
    let none : Significand = record { digits = 0; zeros = 0 } in
    let kept : StandsFor 1000000000001 c.with_digits-number.result (significand p) =
    c.with_digits-number.ensures.value _ (c.with_digits.ensures.value none (record { digits = refl; zeros = refl })) in
    rw (c.scaled-else-parts.ensures, c.power_of-power.ensures, kept.digits, kept.zeros) (sized_positive p c.requires.whole c.requires.fraction c.if-parts.false (omega arith))
