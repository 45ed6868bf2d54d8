use Rattle.std.proofs.Common.{refl, ap, sym, ◌∙◌, subst, arith}
use Rattle.net_sets.specs.Operations.{AreLong}
use Rattle.net_bind.specs.Factors.{have_size}
use Rattle.net_bind.proofs.Products.{of_size}
use Rattle.net_bind.proofs.crossing.as_factor.Goals as goal

pub invariant_of-result : goal.invariant_of-result
invariant_of-result c = of_size _ _ (ap (λ n. have_size n c.in_ok-set-in-Some.set) (sym c.counted.ensures) ∙ ap (λ ts. have_size c.counted.result ts) (sym c.get.ensures) ∙ sym c.have_size.ensures ∙ c.if-have_size.true)
