use Rattle.std.specs.Prelude.{◌≡◌, drop}
use Rattle.net_linear.specs.Forms.{all_small}
use Rattle.net_linear.proofs.products.are_small.Given as goal

abbrev pub invariant-loop-index : goal.invariant-loop-index
invariant-loop-index l = all_small (drop l.index l.products) ≡ all_small l.fn.products
