use Rattle.std.proofs.Common.{◌≡◌, ◌∙◌, ap, arith, ℤ, ◌+ℤ◌, ◌*ℤ◌, to_z, of_z, w64}
use Rattle.std.proofs.lemmas.Grind.{common_steps}
use Rattle.std.proofs.lemmas.Int.{ints}
use Rattle.net_normal.specs.Limits.{IsSized, value_limit}
use Rattle.net_normal.proofs.WholeNumbers.{constant_fits, constant_is}
use Rattle.net_normal.proofs.arc_part.ArcPart.add.Goals as goal

-- a number as the code passes it
passed : (x : ℤ) → IsSized value_limit x → to_z w64 (of_z w64 x) ≡ x
passed x h = omega (arith, ints)

pub overflow_add-self : goal.overflow_add-self
overflow_add-self c = constant_fits c.args.self.now.constant c.offset_price.result c.requires.constant c.offset_price.ensures.size

pub returns-clause-constant : goal.returns-clause-constant
returns-clause-constant c =
    let coefficient = c.args.arc.now.coefficient in
    let sized = c.offset-offset.ensures.size c.requires.arc.lower in
    constant_is c.args.self.now.constant c.offset_price.result c.requires.constant c.offset_price.ensures.size
    ∙ ap (λ (z : ℤ). c.args.self.now.constant +ℤ z) (c.offset_price.ensures.value ∙ ap (λ (z : ℤ). coefficient *ℤ z) (passed c.offset-offset.result sized ∙ c.offset-offset.ensures.value))

pub count_arc-requires-clause-head : goal.count_arc-requires-clause-head
count_arc-requires-clause-head c = grind (arith, common_steps)

pub count_arc-requires-clause-sums : goal.count_arc-requires-clause-sums
count_arc-requires-clause-sums c = grind (arith, common_steps)

pub count_arc-requires-clause-lower : goal.count_arc-requires-clause-lower
count_arc-requires-clause-lower c = grind (arith, common_steps)

pub returns-clause-numbers : goal.returns-clause-numbers
returns-clause-numbers c = grind (arith, common_steps)

pub count_arc-requires-clause-upper : goal.count_arc-requires-clause-upper
count_arc-requires-clause-upper c = grind (arith, common_steps)

pub offset_price-requires-clause-coefficient : goal.offset_price-requires-clause-coefficient
offset_price-requires-clause-coefficient c = grind (arith, common_steps)

pub count_arc-requires-clause-tail : goal.count_arc-requires-clause-tail
count_arc-requires-clause-tail c = grind (arith, common_steps)

pub returns-clause-sums : goal.returns-clause-sums
returns-clause-sums c = grind (arith, common_steps)

pub offset_price-requires-clause-offset : goal.offset_price-requires-clause-offset
offset_price-requires-clause-offset c = grind (arith, common_steps)

pub returns-clause-arcs : goal.returns-clause-arcs
returns-clause-arcs c = grind (arith, common_steps)

pub returns-clause-nodes : goal.returns-clause-nodes
returns-clause-nodes c = grind (arith, common_steps)
