use Rattle.net_linear.proofs.Adding.{IsAdding}
use Rattle.net_linear.proofs.products.add_times.Given as goal

abbrev pub invariant-loop-index : goal.invariant-loop-index
invariant-loop-index l = IsAdding l.fn.left l.left l.fn.right l.fn.factor l.index l.fits
