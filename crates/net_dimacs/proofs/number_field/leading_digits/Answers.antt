use Rattle.std.proofs.Common.{◌+◌, ◌*◌, arith, get_or, ℕ, sym, subst}
use Rattle.std.proofs.lemmas.Grind.{common_steps}
use Rattle.net_dimacs.proofs.DigitFronts.{HasDigits, more_digits, digits_small, digit_high}
use Rattle.net_dimacs.proofs.number_field.leading_digits.Goals as goal

pub returns-then-not-is_ascii_digit-clause-small : goal.returns-then-not-is_ascii_digit-clause-small
returns-then-not-is_ascii_digit-clause-small c = digits_small c.args.bytes.now c.loop-count.count c.loop-count.size c.loop-count.invariant

pub overflow_mul-size : goal.overflow_mul-size
overflow_mul-size c = let small = digits_small c.args.bytes.now c.loop-count.count c.loop-count.size c.loop-count.invariant in omega (arith, small)

pub overflow_add-size : goal.overflow_add-size
overflow_add-size c =
    let small = digits_small c.args.bytes.now c.loop-count.count c.loop-count.size c.loop-count.invariant in
    let high = digit_high (get_or c.args.bytes.now c.loop-count.count 0) (sym c.if-not-is_ascii_digit.ensures.value) in
    omega (arith, small, high, c.from.ensures)

pub loop-count-preserved : goal.loop-count-preserved
loop-count-preserved c =
    let bytes = c.args.bytes.now in
    let count = c.loop-count.count in
    let size = c.loop-count.size in
    subst (λ (n : ℕ). HasDigits bytes (count + 1) (size * 10 + n)) (sym c.from.ensures)
    (more_digits bytes count size c.loop-count-test.true (sym c.if-not-is_ascii_digit.ensures.value) c.if-count-eq18.false c.loop-count.invariant)

pub returns-clause-small : goal.returns-clause-small
returns-clause-small c = digits_small c.args.bytes.now c.loop-count.count c.loop-count.size c.loop-count.invariant

pub overflow_sub-digit : goal.overflow_sub-digit
overflow_sub-digit c = grind (arith, common_steps)
