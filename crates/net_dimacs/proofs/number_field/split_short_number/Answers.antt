use Rattle.std.proofs.Common.{◌≡◌, ◌<◌, ◌∷◌, ℕ, ℤ, List, Some, length, length-drop, sym, ap, ◌∙◌, subst, arith}
use Rattle.std.proofs.lemmas.Grind.{common_steps}
use Rattle.std.proofs.lemmas.Int.{ints}
use Rattle.net_dimacs.specs.Numbers.{cut, BeginsWithDigits}
use Rattle.net_dimacs.proofs.DigitFronts.{unsigned_front, negative_front, front_uncut, negative_uncut, turned, if_some}
use Rattle.net_dimacs.proofs.number_field.split_short_number.Goals as goal

pub returns-in_ok-size-in-Some-clause-number : goal.returns-in_ok-size-in-Some-clause-number
returns-in_ok-size-in-Some-clause-number c =
    let digits = c.in-Some.digits.now in
    let after = c.in_ok-size-in-Some.after.now in
    let z : ℤ = c.in_ok-size-in-Some.size in
    let sign : c.in_ok-blank.rest.now ≡ 45 ∷ digits = c.in-Some.ensures.cases.0 ∙ ap (λ (b : ℕ). b ∷ digits) c.if-sign-eq45.true in
    let front = negative_front c.args.bytes.now c.in_ok-blank.rest.now digits after c.in_ok-blank.blank.now z c.in_ok-blank.ensures.cases.0 (sym c.if-not-is_blank.ensures) sign c.in_ok-size-in-Some.ensures in
    (front.0, front.1, front.2 ∙ ap (λ (x : ℤ). Some x) (sym (turned digits after z c.in_ok-size-in-Some.ensures)))

pub returns-in_default-clause-number : goal.returns-in_default-clause-number
returns-in_default-clause-number c =
    if_some _ _ c.split_digits-in_default.result
    (λ p h. unsigned_front c.args.bytes.now c.in_ok-blank.rest.now p.1.now c.in_ok-blank.blank.now p.0 c.in_ok-blank.ensures.cases.0 (sym c.if-not-is_blank.ensures) h)
    c.split_digits-in_default.ensures

pub overflow_sub-result : goal.overflow_sub-result
overflow_sub-result c = let h = c.in_ok-size-in-Some.ensures in omega (arith, ints, h.value, h.small)

pub returns-in_ok-size-in-Some-clause-small : goal.returns-in_ok-size-in-Some-clause-small
returns-in_ok-size-in-Some-clause-small c =
    let digits = c.in-Some.digits.now in
    let after = c.in_ok-size-in-Some.after.now in
    let z : ℤ = c.in_ok-size-in-Some.size in
    subst (λ (x : ℤ). cut x ≡ x) (sym (turned digits after z c.in_ok-size-in-Some.ensures)) (negative_uncut digits after z c.in_ok-size-in-Some.ensures)

-- digits that end behind the first byte end within the bytes
shorter : (bytes rest after : List ℕ) (b : ℕ) (z : ℤ) → bytes ≡ b ∷ rest → BeginsWithDigits rest after z → length after < length bytes
shorter bytes rest after b z e h = omega (arith, ap length e, ap length h.rest, length-drop h.count rest, h.within)

pub returns-in_ok-size-in-Some-clause-shorter : goal.returns-in_ok-size-in-Some-clause-shorter
returns-in_ok-size-in-Some-clause-shorter c =
    let within = shorter c.in_ok-blank.rest.now c.in-Some.digits.now c.in_ok-size-in-Some.after.now _ c.in_ok-size-in-Some.size c.in-Some.ensures.cases.0 c.in_ok-size-in-Some.ensures in
    omega (arith, within, ap length c.in_ok-blank.ensures.cases.0)

pub returns-in_default-clause-small : goal.returns-in_default-clause-small
returns-in_default-clause-small c =
    if_some _ _ c.split_digits-in_default.result (λ p h. front_uncut c.in_ok-blank.rest.now p.1.now p.0 h) c.split_digits-in_default.ensures

pub returns-in_default-clause-shorter : goal.returns-in_default-clause-shorter
returns-in_default-clause-shorter c =
    if_some _ _ c.split_digits-in_default.result
    (λ p h. shorter c.args.bytes.now c.in_ok-blank.rest.now p.1.now c.in_ok-blank.blank.now p.0 c.in_ok-blank.ensures.cases.0 h)
    c.split_digits-in_default.ensures

pub returns-in_err-blank-clause-small : goal.returns-in_err-blank-clause-small
returns-in_err-blank-clause-small c = grind (arith, common_steps)

pub returns-in_err-size-in-Some-clause-small : goal.returns-in_err-size-in-Some-clause-small
returns-in_err-size-in-Some-clause-small c = grind (arith, common_steps)

pub returns-in_err-blank-clause-shorter : goal.returns-in_err-blank-clause-shorter
returns-in_err-blank-clause-shorter c = grind (arith, common_steps)

pub returns-in_err-blank-clause-number : goal.returns-in_err-blank-clause-number
returns-in_err-blank-clause-number c = grind (arith, common_steps)

pub returns-in_err-size-in-Some-clause-number : goal.returns-in_err-size-in-Some-clause-number
returns-in_err-size-in-Some-clause-number c = grind (arith, common_steps)

pub returns-in_err-size-in-Some-clause-shorter : goal.returns-in_err-size-in-Some-clause-shorter
returns-in_err-size-in-Some-clause-shorter c = grind (arith, common_steps)
