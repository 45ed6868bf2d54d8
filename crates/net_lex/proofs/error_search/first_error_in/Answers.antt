use Rattle.std.proofs.Common.{◌++◌, ◌∷◌, [], ℕ, List, refl, arith}
use Rattle.net_lex.specs.Reading.{EndsInGap}
use Rattle.net_lex.specs.Faults.{IsFault}
use Rattle.net_lex.specs.Limits.{limits}
use Rattle.net_lex.specs.Scanning.{IsStep}
use Rattle.net_lex.proofs.StandLemmas.{LeadsTo, stand_on, stand_ends, next_room}
use Rattle.net_lex.proofs.error_search.first_error_in.Goals as goal

pub returns-in-Err : goal.returns-in-Err
returns-in-Err c =
    let (tokens, stand) = c.tokens.invariant.value in
    let faults = λ (at : ℕ) (rest : List ℕ). IsFault limits c.args.language at rest c.in-Err.error.0 c.in-Err.error.1 in
    (tokens, stand_ends limits c.args.language faults 0 c.tokens.at c.args.text.now c.tokens.rest.now tokens stand c.in-Err.ensures.token)

pub returns-in-Ok-None : goal.returns-in-Ok-None
returns-in-Ok-None c =
    let (tokens, stand) = c.tokens.invariant.value in
    (tokens, stand_ends limits c.args.language EndsInGap 0 c.tokens.at c.args.text.now c.tokens.rest.now tokens stand (rw c.in-Ok-None.field-0-is at c.in-Ok-None.ensures.token))

pub tokens-preserved : goal.tokens-preserved
tokens-preserved c =
    let (tokens, stand) = c.tokens.invariant.value in
    let token = c.in-Ok-Some.found.token in
    let after = c.in-Ok-Some.after.now in
    let step : IsStep c.args.language c.tokens.at c.tokens.rest.now token after = rw c.in-Ok-Some.field-0-is at c.in-Ok-Some.ensures.token in
    let ends = LeadsTo token.span.end after in
    record {
      value = (tokens ++ token ∷ [], stand_on limits c.args.language ends 0 c.tokens.at c.args.text.now c.tokens.rest.now tokens (token ∷ []) stand (step.0, after, step.1, (refl, refl)));
      text = step.3;
      room = omega (arith, next_room c.args.language c.tokens.at c.tokens.rest.now token step.0 after step.1.next, c.tokens.invariant.room);
    }
