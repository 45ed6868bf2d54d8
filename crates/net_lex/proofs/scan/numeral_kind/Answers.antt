use Rattle.std.proofs.Common.{rules, arith, ap, Ok, refl, inl, sym, subst, ◌∙◌}
use Rattle.std.proofs.lemmas.Grind.{common_steps}
use Rattle.std.proofs.lemmas.Int.{to_z-of_z}
use mir.Val.{SFits}
use mir.Syntax.{w64}
use Rattle.net_lex.specs.Limits.{limits}
use Rattle.net_lex.specs.Numerals.{IsValue}
use Rattle.net_lex.specs.declared.scan.WordKind.{WordKind}
use Rattle.net_lex.proofs.ShortNumerals.{plain_numeral}
use Rattle.net_lex.proofs.scan.numeral_kind.Goals as goal

pub returns-then-is_plain : goal.returns-then-is_plain
returns-then-is_plain c = record {
  kind = inl (ap (λ (found : WordKind). Ok found.kind) c.without_value.ensures, plain_numeral c.args.word.now (c.is_plain.ensures c.if-is_plain.true));
  value = λ n e. absurd (omega (arith, e, ap (λ (found : WordKind). found.value_code) c.without_value.ensures));
}

pub returns-in-Err-TooLarge : goal.returns-in-Err-TooLarge
returns-in-Err-TooLarge c = grind (arith, common_steps)

pub returns-in-Ok : goal.returns-in-Ok
returns-in-Ok c =
    let fits : SFits w64 c.in-Ok.value = search rules in
    record {
      kind = inl (refl, (c.in-Ok.value, c.in-Ok.ensures.value));
      value = λ n e. subst (IsValue limits.value c.args.word.now) (sym (to_z-of_z w64 c.in-Ok.value fits) ∙ c.code_of.ensures.value n e) c.in-Ok.ensures.value;
    }

pub returns-in-Err-NotNumeral : goal.returns-in-Err-NotNumeral
returns-in-Err-NotNumeral c = grind (arith, common_steps)

pub returns-in-Err-NotWhole : goal.returns-in-Err-NotWhole
returns-in-Err-NotWhole c = grind (arith, common_steps)
