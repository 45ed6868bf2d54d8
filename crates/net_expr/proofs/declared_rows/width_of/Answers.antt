use Rattle.net_expr.proofs.EqualWidths.{equal_widths}
use Rattle.net_expr.proofs.declared_rows.width_of.Goals as goal

pub returns-then-narrowest-width-clause-value : goal.returns-then-narrowest-width-clause-value
returns-then-narrowest-width-clause-value c = equal_widths c.args.set.now _ _ c.narrowest.ensures c.widest-width.ensures.value c.if-narrowest-width.true
