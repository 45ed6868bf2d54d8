use Rattle.std.proofs.Common.{ap, ◌∙◌, ◌+ℤ◌, ℤ, nat_eq, arith}
use Rattle.std.proofs.lemmas.Grind.{common_steps}
use Rattle.std.proofs.lemmas.Int.{to_z-of_z}
use mir.Syntax.{w128}
use Rattle.indexmap.specs.IndexMap.{insert_entry}
use Rattle.net_linear.proofs.Coefficients.{more_is}
use Rattle.net_linear.proofs.products.add_product.Goals as goal

pub returns-clause-adds : goal.returns-clause-adds
returns-clause-adds c =
    c.in_ok-insert.ensures
    ∙ ap (λ (n : ℤ). insert_entry nat_eq c.args.products.now c.args.arc n)
    (to_z-of_z w128 c.sum_of-sum.result (record { sfits = c.sum_of-sum.type_inv }) ∙ c.sum_of-sum.ensures ∙ ap (λ (n : ℤ). n +ℤ c.args.by.now) (to_z-of_z w128 c.get.result (record { sfits = c.get.type_inv }) ∙ c.get.ensures))
    ∙ more_is c.args.products.now c.args.arc c.args.by.now

pub sum_of-sum-requires : goal.sum_of-sum-requires
sum_of-sum-requires c = grind (arith, common_steps)
