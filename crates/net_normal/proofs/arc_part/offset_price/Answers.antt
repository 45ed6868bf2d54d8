use Rattle.std.proofs.Common.{◌≡◌, ◌*ℤ◌, ◌^◌, rules, subst, sym, to_z, of_z, arith}
use Rattle.std.proofs.lemmas.Grind.{common_steps}
use mir.Syntax.{w128}
use Rattle.net_normal.specs.Limits.{IsSized, value_limit}
use Rattle.net_normal.proofs.WholeNumbers.{sized-mul}
use Rattle.net_normal.proofs.arc_part.offset_price.Goals as goal

pub returns-clause-size : goal.returns-clause-size
returns-clause-size c =
    let plain : to_z w128 (of_z w128 (to_z w128 (of_z w128 c.from.result) *ℤ to_z w128 (of_z w128 c.from-2.result))) ≡ c.args.coefficient.now *ℤ c.args.offset.now = search rules in
    subst (IsSized (10 ^ 24)) (sym plain) (sized-mul value_limit value_limit c.args.coefficient.now c.args.offset.now c.requires.coefficient c.requires.offset)

pub overflow_mul-result : goal.overflow_mul-result
overflow_mul-result c = grind (arith, common_steps)

pub returns-clause-value : goal.returns-clause-value
returns-clause-value c = grind (arith, common_steps)
