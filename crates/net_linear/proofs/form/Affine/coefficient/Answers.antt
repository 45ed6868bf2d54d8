use Rattle.std.proofs.Common.{ap, ◌∙◌, arith}
use Rattle.std.proofs.lemmas.Grind.{common_steps}
use Rattle.std.proofs.lemmas.Int.{to_z-of_z}
use mir.Syntax.{w128}
use Rattle.net_expr.specs.Limits.{is_small}
use Rattle.net_linear.proofs.Coefficients.{each_small}
use Rattle.net_linear.proofs.FormSizes.{products_small}
use Rattle.net_linear.proofs.form.Affine.coefficient.Goals as goal

pub narrow-requires : goal.narrow-requires
narrow-requires c =
    ap is_small (to_z-of_z w128 c.coefficient-coefficient.result (record { sfits = c.coefficient-coefficient.type_inv }) ∙ c.coefficient-coefficient.ensures)
    ∙ each_small c.self.inside.sum.products c.args.arc (products_small c.self.inside.sum c.self.invariant)

pub returns-clause-size : goal.returns-clause-size
returns-clause-size c = grind (arith, common_steps)

pub returns-clause-value : goal.returns-clause-value
returns-clause-value c = grind (arith, common_steps)
