use Rattle.std.specs.Prelude.{◌≡◌, ◌++◌, All, drop, length}
use Rattle.net_inst.specs.Fitting.{IsPriced}
use Rattle.net_inst.specs.Instances.{with_coefficients}
use Rattle.net_inst.proofs.arc.priced.Given as goal

abbrev pub invariant-loop-arc : goal.invariant-loop-arc
invariant-loop-arc l =
    (l.all.items ++ with_coefficients l.form.products (length l.all.items) (drop l.arc-index l.arcs) ≡ with_coefficients l.fn.form.products 0 l.fn.arcs)
    × All IsPriced l.all.items
