use Rattle.std.proofs.Common.{◌≡◌, ◌==◌, pos, ◌∙◌, [], Some, None, sym, ap, subst, rules, eqb-true, arith}
use Rattle.std.proofs.lemmas.Grind.{common_steps}
use Rattle.std.proofs.lemmas.List.{nil_from_length}
use Rattle.std.proofs.lemmas.Int.{to_z-of_z}
use mir.Val.{SFits}
use mir.Syntax.{w64}
use Rattle.net_lex.specs.Bytes.{first, minus, after_sign}
use Rattle.net_lex.specs.Numerals.{IsValue, signed}
use Rattle.net_lex.specs.NumeralFront.{numeral_at}
use Rattle.net_lex.specs.NumeralViews.{parts_view}
use Rattle.net_lex.proofs.NumeralSigned.{read_digits, unread_none, unread_rest, sized_fault, sized_value, digits_spell}
use Rattle.net_lex.proofs.whole.whole_of.Goals as goal

pub returns-in_default-numeral_at : goal.returns-in_default-numeral_at
returns-in_default-numeral_at c =
    let text = c.args.numeral.now in
    let same : c.skip_sign.result.now ≡ after_sign text = c.skip_sign.ensures ∙ ap after_sign c.as_bytes-bytes.ensures.value in
    let read : numeral_at (after_sign text) ≡ None = ap numeral_at (sym same) ∙ sym (c.in_default-numeral_at.ensures) in
    record { value = unread_none text read }

pub returns-then-not-is_empty : goal.returns-then-not-is_empty
returns-then-not-is_empty c =
    let text = c.args.numeral.now in
    let same : c.skip_sign.result.now ≡ after_sign text = c.skip_sign.ensures ∙ ap after_sign c.as_bytes-bytes.ensures.value in
    let read : numeral_at (after_sign text) ≡ Some (parts_view c.in-Some-numeral_at.parts, c.in-Some-numeral_at.after.now) = ap numeral_at (sym same) ∙ sym (c.in-Some-numeral_at.ensures) in
    record { value = unread_rest text _ _ read (sym c.is_empty.ensures ∙ c.if-not-is_empty.true) }

pub size_of-requires-clause-whole : goal.size_of-requires-clause-whole
size_of-requires-clause-whole c = (read_digits _ _ (parts_view c.in-Some-numeral_at.parts) (sym (c.in-Some-numeral_at.ensures))).0

pub size_of-requires-clause-fraction : goal.size_of-requires-clause-fraction
size_of-requires-clause-fraction c = (read_digits _ _ (parts_view c.in-Some-numeral_at.parts) (sym (c.in-Some-numeral_at.ensures))).1

pub returns-in-Err : goal.returns-in-Err
returns-in-Err c =
    let text = c.args.numeral.now in
    let same : c.skip_sign.result.now ≡ after_sign text = c.skip_sign.ensures ∙ ap after_sign c.as_bytes-bytes.ensures.value in
    let ended : c.in-Some-numeral_at.after.now ≡ [] = nil_from_length _ (eqb-true _ _ (sym c.is_empty.ensures ∙ c.if-not-is_empty.false)) in
    let read : numeral_at (after_sign text) ≡ Some (parts_view c.in-Some-numeral_at.parts, []) =
    ap numeral_at (sym same) ∙ (sym (c.in-Some-numeral_at.ensures) ∙ ap (λ rest. Some (parts_view c.in-Some-numeral_at.parts, rest)) ended) in
    record { value = sized_fault _ text _ c.in-Err.why read c.in-Err.ensures }

pub returns-in-Ok : goal.returns-in-Ok
returns-in-Ok c =
    let text = c.args.numeral.now in
    let same : c.skip_sign.result.now ≡ after_sign text = c.skip_sign.ensures ∙ ap after_sign c.as_bytes-bytes.ensures.value in
    let ended : c.in-Some-numeral_at.after.now ≡ [] = nil_from_length _ (eqb-true _ _ (sym c.is_empty.ensures ∙ c.if-not-is_empty.false)) in
    let read : numeral_at (after_sign text) ≡ Some (parts_view c.in-Some-numeral_at.parts, []) =
    ap numeral_at (sym same) ∙ (sym (c.in-Some-numeral_at.ensures) ∙ ap (λ rest. Some (parts_view c.in-Some-numeral_at.parts, rest)) ended) in
    let begins : c.first.result ≡ first text = c.first.ensures ∙ ap first c.as_bytes-bytes.ensures.value in
    let value : signed (first text == minus) c.in-Ok.size ≡ c.with_sign-in-Ok.result = ap (λ b. signed (b == minus) c.in-Ok.size) (sym begins) ∙ sym c.with_sign-in-Ok.ensures in
    let fits : SFits w64 c.with_sign-in-Ok.result = search rules in
    record { value = subst (λ v. IsValue 1000000000000 text v) (value ∙ sym (to_z-of_z w64 c.with_sign-in-Ok.result fits)) (sized_value _ c.in-Ok.size text _ read c.in-Ok.ensures) }

pub with_sign-requires : goal.with_sign-requires
with_sign-requires c = grind (arith, common_steps)

pub returns-in-Some : goal.returns-in-Some
returns-in-Some c =
    let text = c.args.numeral.now in
    let digits : IsValue 1000000000000 text (pos c.in-Some.value) =
    subst (λ t. IsValue 1000000000000 t (pos c.in-Some.value)) c.as_bytes-bytes.ensures.value (rw c.in-Some.ensures.1 (digits_spell _ c.in-Some.ensures.0 (omega (arith, c.in-Some.ensures.1, c.in-Some.ensures.2)))) in
    let fits : SFits w64 c.with_sign.result = search rules in
    record { value = subst (IsValue 1000000000000 text) (sym c.with_sign.ensures ∙ sym (to_z-of_z w64 c.with_sign.result fits)) digits }
