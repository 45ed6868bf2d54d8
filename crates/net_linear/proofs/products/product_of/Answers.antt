use Rattle.net_linear.proofs.Adding.{product_fits, product_is}
use Rattle.net_linear.proofs.products.product_of.Goals as goal

pub overflow_mul-result : goal.overflow_mul-result
overflow_mul-result c = product_fits c.args.factor.now c.args.number.now c.requires.factor c.requires.number

pub returns : goal.returns
returns c = product_is c.args.factor.now c.args.number.now c.requires.factor c.requires.number
