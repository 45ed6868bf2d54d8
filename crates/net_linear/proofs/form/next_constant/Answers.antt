use Rattle.std.proofs.Common.{ap, ◌∙◌, ◌+ℤ◌, ℤ}
use Rattle.std.proofs.lemmas.Int.{to_z-of_z}
use mir.Syntax.{w128}
use Rattle.net_linear.proofs.FormSizes.{constant_room}
use Rattle.net_linear.proofs.form.next_constant.Goals as goal

pub sum_of-requires : goal.sum_of-requires
sum_of-requires c =
    constant_room c.args.constant.now c.args.factor.now c.args.other.now _ c.requires.constant c.requires.factor c.requires.other (to_z-of_z w128 c.product_of-product.result (record { sfits = c.product_of-product.type_inv }) ∙ c.product_of-product.ensures)

pub returns : goal.returns
returns c =
    to_z-of_z w128 c.sum_of.result (record { sfits = c.sum_of.type_inv }) ∙ c.sum_of.ensures
    ∙ ap (λ (i : ℤ). c.args.constant.now +ℤ i) (to_z-of_z w128 c.product_of-product.result (record { sfits = c.product_of-product.type_inv }) ∙ c.product_of-product.ensures)
