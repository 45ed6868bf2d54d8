use Rattle.std.proofs.Common.{subst, arith}
use Rattle.std.proofs.lemmas.Grind.{common_steps}
use Rattle.net_lex.specs.Scanning.{kind_in}
use Rattle.net_lex.specs.Tokens.{HasShape}
use Rattle.net_lex.proofs.ScanLemmas.{numeral_shape_kind}
use Rattle.net_lex.proofs.scan.kind_of.Goals as goal

pub returns-in-Numeral : goal.returns-in-Numeral
returns-in-Numeral c = record {
  kind = numeral_shape_kind c.args.language c.args.word.now (kind_in c.numeral_kind.result)
      (subst (λ shape. HasShape c.args.language shape c.args.word.now) c.in-Numeral.is c.requires) c.numeral_kind.ensures.kind;
  value = c.numeral_kind.ensures.value;
}

pub returns-in-Quoted : goal.returns-in-Quoted
returns-in-Quoted c = grind (arith, common_steps)

pub returns-in-Mark : goal.returns-in-Mark
returns-in-Mark c = grind (arith, common_steps)
