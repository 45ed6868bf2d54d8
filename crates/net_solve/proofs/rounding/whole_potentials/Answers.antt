use Rattle.std.proofs.Common.{◌≡◌, length, IfSome, rules, subst, arith}
use Rattle.net_solve.specs.Rounding.{IsFree, level_at}
use Rattle.net_solve.proofs.Rounded.{from-zero}
use Rattle.std.proofs.lemmas.Grind.{common_steps}
use Rattle.net_solve.proofs.rounding.whole_potentials.Goals as goal

pub returns-clause-rounded : goal.returns-clause-rounded
returns-clause-rounded c =
    let potentials = c.args.potentials.now in
    let whole = c.loop-potential.rounded in
    let count : length whole.items ≡ length potentials = omega (arith, c.loop-potential.invariant.count, c.loop-potential-test.false, c.loop-potential.auto.potential-index-end, whole.ok.0) in
    record {
      free = c.in-Some.free;
      top = c.level-top.result;
      is_free = subst (λ found. IfSome found (IsFree potentials)) c.in-Some.is c.in_ok-free.ensures;
      count = count;
      each = λ v l. c.loop-potential.invariant.each v (omega (arith, l, c.loop-potential-test.false));
    }

pub returns-clause-from_zero : goal.returns-clause-from_zero
returns-clause-from_zero c =
    let potentials = c.args.potentials.now in
    let whole = c.loop-potential.rounded in
    let count : length whole.items ≡ length potentials = omega (arith, c.loop-potential.invariant.count, c.loop-potential-test.false, c.loop-potential.auto.potential-index-end, whole.ok.0) in
    let top : c.level-top.result ≡ level_at potentials c.in-Some.free c.lowest-lowest.result = search rules in
    from-zero potentials whole.items c.in-Some.free c.level-top.result c.lowest-lowest.result count c.lowest-lowest.ensures.inside c.lowest-lowest.ensures.lowest top (λ v l. c.loop-potential.invariant.each v (omega (arith, l, c.loop-potential-test.false)))

pub level-top-requires-clause-deep : goal.level-top-requires-clause-deep
level-top-requires-clause-deep c = grind (arith)

pub level-top-requires-clause-free : goal.level-top-requires-clause-free
level-top-requires-clause-free c = grind (arith)

pub lowest-lowest-requires-clause-deep : goal.lowest-lowest-requires-clause-deep
lowest-lowest-requires-clause-deep c = grind (arith)

pub lowest-lowest-requires-clause-free : goal.lowest-lowest-requires-clause-free
lowest-lowest-requires-clause-free c = grind (arith)

pub whole-requires-clause-deep : goal.whole-requires-clause-deep
whole-requires-clause-deep c = grind (arith)

pub whole-requires-clause-factor : goal.whole-requires-clause-factor
whole-requires-clause-factor c = grind (arith)

pub whole-requires-clause-free : goal.whole-requires-clause-free
whole-requires-clause-free c = grind (arith)

pub loop-potential-preserved : goal.loop-potential-preserved
loop-potential-preserved c = grind (arith, common_steps)
