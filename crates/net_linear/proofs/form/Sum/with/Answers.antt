use Rattle.std.proofs.Common.{arith}
use Rattle.std.proofs.lemmas.Grind.{common_steps}
use Rattle.net_linear.proofs.FormSizes.{apart_new}
use Rattle.net_linear.proofs.form.Sum.with.Goals as goal

pub invariant_of-result : goal.invariant_of-result
invariant_of-result c = apart_new c.self.inside.products c.args.factor.now c.form-inside.inside.0.0.products _ c.in_ok-small.ensures.adds c.self.invariant

pub returns-clause-other : goal.returns-clause-other
returns-clause-other c = grind (arith, common_steps)

pub same-products : goal.same-products
same-products c = grind (arith, common_steps)

pub next_constant-constant-requires-clause-factor : goal.next_constant-constant-requires-clause-factor
next_constant-constant-requires-clause-factor c = grind (arith, common_steps)

pub add_times-requires-clause-left : goal.add_times-requires-clause-left
add_times-requires-clause-left c = grind (arith, common_steps)

pub next_constant-constant-requires-clause-other : goal.next_constant-constant-requires-clause-other
next_constant-constant-requires-clause-other c = grind (arith, common_steps)

pub next_constant-constant-requires-clause-constant : goal.next_constant-constant-requires-clause-constant
next_constant-constant-requires-clause-constant c = grind (arith)

pub returns-clause-value : goal.returns-clause-value
returns-clause-value c = grind (arith)
