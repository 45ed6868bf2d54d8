use Rattle.std.proofs.Common.{◌≡◌, ◌<◌, ◌+◌, ◌++◌, ◌∷◌, [], List, ℕ, false, length, sym, ap, subst, ◌∙◌, arith}
use Rattle.std.proofs.lemmas.Bool.Decides.{nat_tests}
use Rattle.net_dimacs.specs.Lines.{is_feed, HasNone}
use Rattle.net_dimacs.specs.OpenLines.{IsSameStatement, short_field}
use Rattle.net_dimacs.proofs.Lists.{all_append}
use Rattle.net_dimacs.proofs.OpenFronts.{IsCutFront, field_cut, blanks_left, field_left, seven_cut, first_stands, after_feedless, next_feedless}
use Rattle.net_dimacs.proofs.open_line.front_of.Goals as goal

pub returns-in_default-clause-alike : goal.returns-in_default-clause-alike
returns-in_default-clause-alike c = blanks_left c.args.line.now c.loop.front.items c.loop.rest.now c.loop.counter c.loop.invariant.cut c.in_default.ensures.cut

pub returns-then-is_empty-clause-alike : goal.returns-then-is_empty-clause-alike
returns-then-is_empty-clause-alike c =
    let field : List ℕ = c.in-Some.field.now in
    let after : List ℕ = c.in-Some.after.now in
    let rest : List ℕ = c.loop.rest.now in
    let none : length after ≡ 0 = grind (arith, nat_tests) in
    subst (λ (l : List ℕ). IsSameStatement l c.args.line.now) (sym c.push_field.ensures.text)
    (field_left c.args.line.now c.loop.front.items rest field after (short_field field) c.loop.counter c.loop.invariant.cut c.in-Some.ensures.cut none
    (first_stands rest field after c.in-Some.ensures.cut c.loop.invariant.left))

pub returns-then-is_empty-clause-few : goal.returns-then-is_empty-clause-few
returns-then-is_empty-clause-few c = omega (arith, c.loop.invariant.few, c.push_field.ensures.few, c.loop-test.true)

pub returns-then-is_empty-clause-no_feed : goal.returns-then-is_empty-clause-no_feed
returns-then-is_empty-clause-no_feed c =
    let field : List ℕ = c.in-Some.field.now in
    let s = first_stands c.loop.rest.now field c.in-Some.after.now c.in-Some.ensures.cut c.loop.invariant.left in
    subst (HasNone is_feed) (sym c.push_field.ensures.text) (all_append (λ b. is_feed b ≡ false) c.loop.front.items (short_field field) c.loop.invariant.kept s.whole)

pub loop-preserved : goal.loop-preserved
loop-preserved c =
    let field : List ℕ = c.in-Some.field.now in
    let after : List ℕ = c.in-Some.after.now in
    let rest : List ℕ = c.loop.rest.now in
    let front : List ℕ = c.loop.front.items in
    let some : 0 < length after = grind (arith, nat_tests) in
    let s = first_stands rest field after c.in-Some.ensures.cut c.loop.invariant.left in
    let kept : c.push.new.self.items ≡ (front ++ short_field field) ++ 32 ∷ [] = c.push.ensures.items ∙ ap (λ (l : List ℕ). l ++ 32 ∷ []) c.push_field.ensures.text in
    record {
      few = omega (arith, c.loop.invariant.few, c.push_field.ensures.few, c.push.ensures.len);
      kept = subst (HasNone is_feed) (sym kept) (next_feedless front (short_field field) c.loop.invariant.kept s.whole);
      left = after_feedless rest field after c.in-Some.ensures.cut c.loop.invariant.left;
      cut = subst (λ (l : List ℕ). IsCutFront c.args.line.now l after (c.loop.counter + 1)) (sym kept)
          (field_cut c.args.line.now front rest field after (short_field field) c.loop.counter c.loop.invariant.cut c.in-Some.ensures.cut some s);
    }

pub returns-clause-alike : goal.returns-clause-alike
returns-clause-alike c = seven_cut c.args.line.now c.loop.front.items c.loop.rest.now c.loop.counter c.loop.invariant.cut (grind (arith, nat_tests))
