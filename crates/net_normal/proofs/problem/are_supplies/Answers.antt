use Rattle.std.proofs.Common.{IsTrue, arith, rules, pos, refl}
use Rattle.std.proofs.lemmas.Grind.{common_steps}
use Rattle.std.proofs.lemmas.List.Elements.{All-more}
use Rattle.net_normal.specs.Limits.{IsSized, flow_limit}
use Rattle.net_normal.proofs.AllTaken.{all_taken}
use Rattle.net_normal.proofs.problem.are_supplies.Goals as goal

pub loop-number-preserved : goal.loop-number-preserved
loop-number-preserved c =
    let passed : IsTrue c.is_sized.result = search rules in
    All-more (IsSized flow_limit) c.args.numbers.now c.loop-number.number-index (pos 0) c.loop-number-test.true c.loop-number.invariant ((c.is_sized.ensures flow_limit refl).0 passed)

pub returns : goal.returns
returns c = (λ _. all_taken (IsSized flow_limit) c.args.numbers.now c.loop-number.number-index (omega arith) c.loop-number.invariant, λ _. search rules)

pub returns-then-not-is_sized : goal.returns-then-not-is_sized
returns-then-not-is_sized c = grind (arith, common_steps)
