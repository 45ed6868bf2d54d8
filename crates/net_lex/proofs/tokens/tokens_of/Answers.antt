use Rattle.std.proofs.Common.{◌≡◌, ◌++◌, ◌∷◌, [], ℕ, List, All, drop, map, sym, ap, ◌∙◌, subst, refl, arith}
use Rattle.std.proofs.lemmas.List.{map-append}
use Rattle.std.proofs.lemmas.List.Elements.{All-push}
use Rattle.net_lex.specs.declared.token.Token.{Token}
use Rattle.net_lex.specs.Reading.{EndsInGap}
use Rattle.net_lex.specs.Faults.{IsFault, StandSound}
use Rattle.net_lex.specs.Limits.{limits}
use Rattle.net_lex.specs.Packed.{unpacked, IsIn, IsCodeOf}
use Rattle.net_lex.specs.Scanning.{IsStep}
use Rattle.net_lex.proofs.PackedLemmas.{after_is, end_is, unpacked_is, is_in}
use Rattle.net_lex.proofs.StandLemmas.{LeadsTo, stand_on, stand_ends, begins, next_room}
use Rattle.net_lex.proofs.tokens.tokens_of.Goals as goal

pub returns-in-Err : goal.returns-in-Err
returns-in-Err c =
    let faults = λ (at : ℕ) (rest : List ℕ). IsFault limits c.args.language at rest c.in-Err.error_code c.in-Err.span in
    let tokens = map (unpacked c.args.text.now) c.tokens.tokens.items in
    rw c.of_text.ensures (refl, tokens, stand_ends limits c.args.language faults 0 c.tokens.at c.args.text.now c.tokens.rest.now tokens c.tokens.invariant.value c.in-Err.ensures.token)

pub returns-in-Ok-None : goal.returns-in-Ok-None
returns-in-Ok-None c =
    let tokens = map (unpacked c.args.text.now) c.tokens.tokens.items in
    rw c.new.ensures (stand_ends limits c.args.language EndsInGap 0 c.tokens.at c.args.text.now c.tokens.rest.now tokens c.tokens.invariant.value (rw c.in-Ok-None.field-0-is at c.in-Ok-None.ensures.token))

pub tokens-preserved : goal.tokens-preserved
tokens-preserved c =
    let token = c.in-Ok-Some.found.token in
    let after = c.in-Ok-Some.after.now in
    let text = c.args.text.now in
    let step : IsStep c.args.language c.tokens.at c.tokens.rest.now token after = rw c.in-Ok-Some.field-0-is at c.in-Ok-Some.ensures.token in
    let old = map (unpacked text) c.tokens.tokens.items in
    let ends = LeadsTo token.span.end after in
    let more : StandSound limits c.args.language ends 0 text (old ++ token ∷ []) =
    stand_on limits c.args.language ends 0 c.tokens.at text c.tokens.rest.now old (token ∷ []) c.tokens.invariant.value (step.0, after, step.1, (refl, refl)) in
    let here = c.tokens.invariant.here in
    let room = c.tokens.invariant.room in
    let rest = c.tokens.rest.now in
    let code = c.in-Ok-Some.found.value_code in
    let value : IsCodeOf token.text code = rw c.in-Ok-Some.field-0-is at c.in-Ok-Some.ensures.value in
    let token_is : unpacked text c.of.result ≡ token = ap (unpacked text) c.of.ensures.value ∙ unpacked_is c.args.language text rest step.0 after c.tokens.at token here room step.1 code in
    let items = c.in-Ok.ensures.items in
    let all : map (unpacked text) (c.tokens.tokens.items ++ c.of.result ∷ []) ≡ old ++ token ∷ [] = map-append (unpacked text) c.tokens.tokens.items (c.of.result ∷ []) ∙ ap (λ (t : Token). old ++ t ∷ []) token_is in
    let now_in : IsIn text c.of.result = subst (IsIn text) (sym c.of.ensures.value) (is_in c.args.language text rest step.0 after c.tokens.at token here room step.1 code value c.of.ensures.utf8 step.3) in
    record {
      value = subst (StandSound limits c.args.language ends 0 text) (sym (ap (map (unpacked text)) items ∙ all)) more;
      places = subst (All (IsIn text)) (sym items) (All-push (IsIn text) c.tokens.tokens.items c.of.result c.tokens.invariant.places now_in);
      text = step.3;
      here = sym (ap (λ k. drop k text) (end_is c.args.language text rest step.0 after c.tokens.at token here room step.1) ∙ after_is c.args.language text rest step.0 after c.tokens.at token here room step.1);
      room = omega (arith, next_room c.args.language c.tokens.at rest token step.0 after step.1.next, room);
    }

pub returns-in_default : goal.returns-in_default
returns-in_default c =
    let token = c.in-Ok-Some.found.token in
    let after = c.in-Ok-Some.after.now in
    let step : IsStep c.args.language c.tokens.at c.tokens.rest.now token after = rw c.in-Ok-Some.field-0-is at c.in-Ok-Some.ensures.token in
    begins c.args.language c.args.text.now c.tokens.at c.tokens.rest.now (map (unpacked c.args.text.now) c.tokens.tokens.items) token step.0 after c.tokens.invariant.value step.1
