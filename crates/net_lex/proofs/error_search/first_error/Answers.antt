use Rattle.std.proofs.Common.{sym, subst, refl, arith}
use Rattle.std.specs.Str.{IsValidUpTo}
use Rattle.net_lex.specs.Faults.{not_utf8}
use Rattle.net_lex.proofs.Existence.{Walked, decided}
use Rattle.net_lex.proofs.error_search.first_error.Goals as goal

pub returns-in-Err : goal.returns-in-Err
returns-in-Err c =
    let valid = subst (IsValidUpTo c.args.text.now) (sym c.valid_up_to-good.ensures) c.in-Err.ensures.cases.1 in
    not_utf8 c.valid_up_to-good.result (omega (arith, c.text_limit.ensures)) valid refl refl

pub returns-in-Ok : goal.returns-in-Ok
returns-in-Ok c = decided c.args.language c.args.text.now (omega (arith, c.text_limit.ensures)) c.in-Ok.ensures.cases.1 c.first_error_in.result
    (subst (λ t. Walked c.args.language t c.first_error_in.result) c.in-Ok.ensures.cases.0 c.first_error_in.ensures)
