use Rattle.std.proofs.Common.{◌≡◌, List, ℤ, length, subst, ap, arith, rules, get_or, pos}
use Rattle.std.proofs.lemmas.Grind.{common_steps}
use Rattle.net_solve.specs.Pseudoflows.{StandsIn}
use Rattle.net_solve.proofs.Closing.{sorted-rises, sorted-stands}
use Rattle.net_solve.proofs.gaps.in_order.Goals as goal

pub returns-clause-rising : goal.returns-clause-rising
returns-clause-rising c = sorted-rises c.sort.new.self.items c.in_ok-sort.ensures.sorted

pub returns-clause-same : goal.returns-clause-same
returns-clause-same c = λ v l.
    let same : c.extend_from_slice.new.self.items ≡ c.args.numbers.now = search rules in
    subst (λ (xs : List ℤ). StandsIn c.sort.new.self.items (get_or xs v (pos 0))) same (sorted-stands c.extend_from_slice.new.self.items c.sort.new.self.items v c.in_ok-sort.ensures.permutation (omega (arith, l, ap length same)))

pub returns-clause-len : goal.returns-clause-len
returns-clause-len c = grind (arith, common_steps)
