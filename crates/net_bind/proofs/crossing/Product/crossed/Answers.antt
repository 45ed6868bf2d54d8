use Rattle.std.specs.Prelude.{◌+◌}
use Rattle.std.proofs.Common.{sym, subst}
use Rattle.net_sets.specs.Operations.{AreLong}
use Rattle.net_bind.proofs.Products.{crossed_long}
use Rattle.net_bind.proofs.crossing.Product.crossed.Goals as goal

pub invariant_of-result : goal.invariant_of-result
invariant_of-result c =
    subst (AreLong (c.counted-start.result + c.counted.result)) (sym c.in_ok-tuples.ensures)
    (crossed_long c.counted-start.result c.counted.result c.self.inside.tuples c.factor.inside.set
    (subst (λ n. AreLong n c.self.inside.tuples) (sym c.counted-start.ensures) c.self.invariant) (subst (λ n. AreLong n c.factor.inside.set) (sym c.counted.ensures) c.factor.invariant))
