use Rattle.std.proofs.Common.{ap, sym, ◌∙◌, subst, arith}
use Rattle.std.specs.List.{prefix_len}
use Rattle.std.proofs.lemmas.Grind.{common_steps}
use Rattle.std.proofs.lemmas.Str.{IsCharBoundary-before_ascii, IsCharBoundary-after_ascii}
use Rattle.net_report.proofs.LineEnds.{stays, IsCut, cut_line, whole_line}
use Rattle.net_report.proofs.links.cut_at_line_end.Goals as goal

pub range-requires-clause-end_boundary : goal.range-requires-clause-end_boundary
range-requires-clause-end_boundary c =
    let text = c.args.text.now in
    let at = c.plain_len-plain.ensures.value ∙ ap (prefix_len stays) c.as_bytes.ensures.value in
    let cut = subst (IsCut text) (sym at) (cut_line text (omega (arith, at, c.if-plain-text.true))) in
    IsCharBoundary-before_ascii text c.plain_len-plain.result (omega (arith, c.if-plain-text.true)) cut.small

pub range_from-requires : goal.range_from-requires
range_from-requires c =
    let text = c.args.text.now in
    let at = c.plain_len-plain.ensures.value ∙ ap (prefix_len stays) c.as_bytes.ensures.value in
    let cut = subst (IsCut text) (sym at) (cut_line text (omega (arith, at, c.if-plain-text.true))) in
    λ _. IsCharBoundary-after_ascii text c.plain_len-plain.result c.utf8.text (omega (arith, c.if-plain-text.true)) cut.small

pub returns-then-plain-text : goal.returns-then-plain-text
returns-then-plain-text c =
    let text = c.args.text.now in
    let at = c.plain_len-plain.ensures.value ∙ ap (prefix_len stays) c.as_bytes.ensures.value in
    let value = (subst (IsCut text) (sym at) (cut_line text (omega (arith, at, c.if-plain-text.true)))).value in
    (grind (arith, common_steps), grind (arith, common_steps), c.range_from.utf8)

pub returns-else-plain-text : goal.returns-else-plain-text
returns-else-plain-text c =
    let at = c.plain_len-plain.ensures.value ∙ ap (prefix_len stays) c.as_bytes.ensures.value in
    whole_line c.args.text.now (omega (arith, at, c.if-plain-text.false))
