use Rattle.std.proofs.Common.{ap, ◌∙◌}
use Rattle.net_dimacs.specs.Lines.{fields_of}
use Rattle.net_dimacs.specs.Numbers.{statement_of_kind}
use Rattle.net_dimacs.specs.declared.problem_line.LineKind.{LineKind}
use Rattle.net_dimacs.proofs.Saying.{line_says}
use Rattle.net_dimacs.proofs.problem_line.statement_of.Goals as goal

pub returns : goal.returns
returns c =
    c.statement_of_kind.ensures ∙ ap (λ (k : LineKind). statement_of_kind k (fields_of c.in_ok-field.rest.now)) c.kind_of.ensures
    ∙ line_says c.args.line.now c.in_ok-field.field.now (fields_of c.in_ok-field.rest.now) c.in_ok-field.ensures.parts
