use Rattle.std.proofs.Common.{◌+◌, sym, subst, refl, arith, List}
use Rattle.std.proofs.lemmas.Grind.{common_steps}
use Rattle.std.specs.Str.{IsValidUpTo}
use Rattle.net_base.specs.declared.error_code.ErrorCode.TheVariants.{NotUtf8}
use Rattle.net_lex.specs.declared.token.Token.{Token}
use Rattle.net_lex.specs.Faults.{not_utf8}
use Rattle.net_lex.proofs.Reporting.{Reported, reported_stands, reported_lexes, rejected_at}
use Rattle.net_lex.proofs.tokens.lex.Goals as goal

pub returns-in-Err : goal.returns-in-Err
returns-in-Err c =
    let good = c.valid_up_to-good.result in
    let valid = subst (IsValidUpTo c.args.text.now) (sym c.valid_up_to-good.ensures) c.in-Err.ensures.cases.1 in
    record {
      value = rw c.of_text-in-Err.ensures (rejected_at {V = List Token} (λ v. v) c.args.language c.args.text.now NotUtf8 (record { start = good; end = good + 1 })
          (not_utf8 good (omega (arith, c.text_limit.ensures)) valid refl refl) (omega arith, omega (arith, valid.short)));
      stands = tt;
    }

pub returns-in-Ok : goal.returns-in-Ok
returns-in-Ok c =
    record {
      value = reported_lexes (λ v. v) c.args.language c.args.text.now (omega (arith, c.text_limit.ensures)) c.in-Ok.ensures.cases.1
          c.tokens_of.result (subst (λ t. Reported {V = List Token} (λ v. v) c.args.language t c.tokens_of.result) c.in-Ok.ensures.cases.0 c.tokens_of.ensures);
      stands = reported_stands c.args.language c.args.text.now c.tokens_of.result (subst (λ t. Reported {V = List Token} (λ v. v) c.args.language t c.tokens_of.result) c.in-Ok.ensures.cases.0 c.tokens_of.ensures);
    }

pub returns-then-text-text_limit : goal.returns-then-text-text_limit
returns-then-text-text_limit c = grind (arith, common_steps)

pub tokens_of-requires : goal.tokens_of-requires
tokens_of-requires c = grind (arith, common_steps)
