use Rattle.std.proofs.Common.{◌≡◌, ◌<◌, ◌∷◌, List, ℕ, length, sym, ap, ◌∙◌, arith, subst, drop}
use Rattle.std.proofs.lemmas.Bool.Decides.{nat_tests}
use Rattle.std.proofs.lemmas.List.{nil_from_length}
use Rattle.std.specs.List.{position_or_len}
use Rattle.net_dimacs.specs.Lines.{is_blank, fields_of, IsFirstField}
use Rattle.net_dimacs.proofs.FirstFields.{first_field_is, only_blanks}
use Rattle.net_dimacs.proofs.Fronts.{is_other, place_is, place_within, skip_blanks, begins_other, first_field}
use Rattle.net_dimacs.proofs.fields.split_field.Goals as goal

pub returns-then-is_empty-clause-parts : goal.returns-then-is_empty-clause-parts
returns-then-is_empty-clause-parts c =
    let rest = c.split_at.result.1.now in
    let none : length rest ≡ 0 = grind (arith, nat_tests) in
    let after : rest ≡ drop (position_or_len is_other c.args.bytes.now) c.args.bytes.now = c.split_at.ensures.back ∙ ap (λ (k : ℕ). drop k c.args.bytes.now) (place_is is_other c.args.bytes.now c.first_other.result c.unwrap_or-start.result c.first_other.ensures c.unwrap_or-start.ensures) in
    skip_blanks c.args.bytes.now ∙ ap fields_of (sym after) ∙ ap fields_of (nil_from_length rest none)

pub returns-clause-parts : goal.returns-clause-parts
returns-clause-parts c =
    let rest = c.split_at.result.1.now in
    let k = c.unwrap_or-end.result in
    let some : 0 < length rest = grind (arith, nat_tests) in
    let after : rest ≡ drop (position_or_len is_other c.args.bytes.now) c.args.bytes.now = c.split_at.ensures.back ∙ ap (λ (k : ℕ). drop k c.args.bytes.now) (place_is is_other c.args.bytes.now c.first_other.result c.unwrap_or-start.result c.first_other.ensures c.unwrap_or-start.ensures) in
    let P : List ℕ → Type 0 = λ r. 0 < length r → 0 < position_or_len is_blank r in
    let begins : P rest = subst P (sym after) (begins_other c.args.bytes.now) in
    let at : 0 < position_or_len is_blank rest = begins some in
    let is_at : k ≡ position_or_len is_blank rest = place_is is_blank rest c.first_blank.result c.unwrap_or-end.result c.first_blank.ensures c.unwrap_or-end.ensures in
    skip_blanks c.args.bytes.now ∙ ap fields_of (sym after)
    ∙ first_field rest k is_at (omega (arith, is_at, at)) some
    ∙ ap (λ (f : List ℕ). f ∷ fields_of (drop k rest)) (sym c.split_at-2.ensures.front)
    ∙ ap (λ (r : List ℕ). c.split_at-2.result.0.now ∷ fields_of r) (sym c.split_at-2.ensures.back)

pub returns-clause-shorter : goal.returns-clause-shorter
returns-clause-shorter c =
    let rest = c.split_at.result.1.now in
    let some : 0 < length rest = grind (arith, nat_tests) in
    let after : rest ≡ drop (position_or_len is_other c.args.bytes.now) c.args.bytes.now = c.split_at.ensures.back ∙ ap (λ (k : ℕ). drop k c.args.bytes.now) (place_is is_other c.args.bytes.now c.first_other.result c.unwrap_or-start.result c.first_other.ensures c.unwrap_or-start.ensures) in
    let P : List ℕ → Type 0 = λ r. 0 < length r → 0 < position_or_len is_blank r in
    let begins : P rest = subst P (sym after) (begins_other c.args.bytes.now) in
    let at : 0 < position_or_len is_blank rest = begins some in
    let is_at : c.unwrap_or-end.result ≡ position_or_len is_blank rest = place_is is_blank rest c.first_blank.result c.unwrap_or-end.result c.first_blank.ensures c.unwrap_or-end.ensures in
    omega (arith, is_at, at, c.split_at-2.ensures.back_len, c.split_at.ensures.back_len)

pub split_at-requires : goal.split_at-requires
split_at-requires c = place_within is_other c.args.bytes.now c.first_other.result c.unwrap_or-start.result c.first_other.ensures c.unwrap_or-start.ensures

pub split_at-requires-2 : goal.split_at-requires-2
split_at-requires-2 c = place_within is_blank c.split_at.result.1.now c.first_blank.result c.unwrap_or-end.result c.first_blank.ensures c.unwrap_or-end.ensures

pub returns-then-is_empty-clause-cut : goal.returns-then-is_empty-clause-cut
returns-then-is_empty-clause-cut c =
    let bytes = c.args.bytes.now in
    let rest = c.split_at.result.1.now in
    let none : length rest ≡ 0 = grind (arith, nat_tests) in
    let after : rest ≡ drop (position_or_len is_other bytes) bytes = c.split_at.ensures.back ∙ ap (λ (k : ℕ). drop k bytes) (place_is is_other bytes c.first_other.result c.unwrap_or-start.result c.first_other.ensures c.unwrap_or-start.ensures) in
    only_blanks bytes rest after none

pub returns-clause-cut : goal.returns-clause-cut
returns-clause-cut c =
    let bytes = c.args.bytes.now in
    let rest = c.split_at.result.1.now in
    let k = c.unwrap_or-end.result in
    let some : 0 < length rest = grind (arith, nat_tests) in
    let after : rest ≡ drop (position_or_len is_other bytes) bytes = c.split_at.ensures.back ∙ ap (λ (k : ℕ). drop k bytes) (place_is is_other bytes c.first_other.result c.unwrap_or-start.result c.first_other.ensures c.unwrap_or-start.ensures) in
    let is_at : k ≡ position_or_len is_blank rest = place_is is_blank rest c.first_blank.result c.unwrap_or-end.result c.first_blank.ensures c.unwrap_or-end.ensures in
    subst (λ (a : List ℕ). IsFirstField bytes c.split_at-2.result.0.now a) (sym c.split_at-2.ensures.back)
    (subst (λ (f : List ℕ). IsFirstField bytes f (drop k rest)) (sym c.split_at-2.ensures.front) (first_field_is bytes rest k after some is_at))
