use Rattle.std.proofs.Common.{IsTrue, refl, arith, below_more, rules}
use Rattle.std.proofs.lemmas.Grind.{common_steps}
use Rattle.net_normal.specs.Flows.{IsWithinCapacity}
use Rattle.net_check.specs.FirstFaults.{ArcKeeps}
use Rattle.net_check.proofs.Pairs.{keeps-here, kept, keeps-all}
use Rattle.net_check.proofs.checker.first_out_of_bounds.Goals as goal

pub returns-then-not-is_within-clause-some : goal.returns-then-not-is_within-clause-some
returns-then-not-is_within-clause-some c = record {
  index = c.loop-index.index;
  counted = refl;
  fails = λ keeps.
      let passed : IsTrue c.is_within.result = c.is_within.ensures.1 (kept IsWithinCapacity c.args.arcs.now c.args.flows.now c.loop-index.index _ _ c.loop-index-test.true c.requires.one_each keeps) in
      absurd (search rules);
  before = c.loop-index.invariant;
}

pub loop-index-preserved : goal.loop-index-preserved
loop-index-preserved c =
    let passed : IsTrue c.is_within.result = search rules in
    below_more (ArcKeeps IsWithinCapacity c.args.arcs.now c.args.flows.now) c.loop-index.index c.loop-index.invariant
    (keeps-here IsWithinCapacity c.args.arcs.now c.args.flows.now c.loop-index.index _ _ (c.is_within.ensures.0 passed))

pub returns-clause-none : goal.returns-clause-none
returns-clause-none c = keeps-all IsWithinCapacity c.args.arcs.now c.args.flows.now c.requires.one_each (λ k l. c.loop-index.invariant k (omega arith))

pub loop-index-init : goal.loop-index-init
loop-index-init c = grind (arith, common_steps)
