use Rattle.std.proofs.Common.{◌≡◌, Some, [], sym, ◌∙◌, arith}
use Rattle.std.proofs.lemmas.Grind.{common_steps}
use Rattle.net_tree.specs.Spans.{span_of}
use Rattle.net_tree.specs.View.{tree}
use Rattle.net_bind.specs.FromData.{numeral}
use Rattle.net_bind.proofs.FromData.{numeral_value}
use Rattle.net_bind.proofs.constant_phrase.satisfies.Goals as goal

pub returns-in-Number-Some : goal.returns-in-Number-Some
returns-in-Number-Some c = λ w d met.
    let is : numeral (tree c.args.expr.now) ≡ Some c.in-Number-Some.bound = sym c.numeral.ensures ∙ c.in-Number-Some.is-1 in
    let holds = c.holds.ensures (span_of (tree c.args.expr.now)) met in
    let value = numeral_value w [] (tree c.args.expr.now) c.in-Number-Some.bound is in
    grind (arith, common_steps, value, holds)
