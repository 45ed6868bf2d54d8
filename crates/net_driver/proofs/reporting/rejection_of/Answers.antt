use Rattle.std.proofs.Common.{refl, arith}
use Rattle.std.proofs.lemmas.Grind.{common_steps}
use Rattle.net_driver.proofs.reporting.rejection_of.Goals as goal

pub line_column-line-requires : goal.line_column-line-requires
line_column-line-requires c = omega (arith, c.requires.forward, c.requires.inside)

pub returns-clause-ok : goal.returns-clause-ok
returns-clause-ok c = record {
  kind = refl;
  named = c.name_of.ensures;
  span = refl;
  lies = c.requires;
  line = c.line_column-line.ensures.line;
  column = c.line_column-line.ensures.column;
  detail = c.in_ok-detail.ensures.ok;
}

pub returns-clause-err : goal.returns-clause-err
returns-clause-err c = grind (arith, common_steps)

pub returns-in_err-detail-clause-err : goal.returns-in_err-detail-clause-err
returns-in_err-detail-clause-err c = λ e none. c.in_err-detail.ensures.err refl none
