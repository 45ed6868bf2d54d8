use Rattle.std.proofs.Common.{◌≡◌, ℤ, refl, subst, sym, to_z, of_z, arith}
use Rattle.std.proofs.lemmas.Grind.{common_steps}
use Rattle.std.proofs.lemmas.Int.{ints}
use mir.Syntax.{w128}
use Rattle.net_solve.specs.Pseudoflows.{IsSlackArc}
use Rattle.net_solve.proofs.SlackScanning.{At, scanned-full, scanned-way, none-of, clear-of, inside-of, is-of}
use Rattle.net_solve.proofs.slack.min_slack_arc.Goals.{in-Some, in-None}
use Rattle.net_solve.proofs.slack.min_slack_arc.Goals as goal

pub loop-index-preserved : goal.loop-index-preserved
loop-index-preserved c =
    let arcs = c.args.arcs.now in
    let flows = c.args.flows.now in
    let potentials = c.args.potentials.now in
    let flags = c.args.flags.now in
    let i = c.loop-index.index in
    elim c.match-depth_of.branch [
      | in-Some w ↦
          let small = w.in-Some.ensures.size in
          let plain : to_z w128 (of_z w128 w.in-Some.depth) ≡ w.in-Some.depth = omega (arith, ints, small.above, small.below) in
          let is = subst (λ (d : ℤ). At (IsSlackArc potentials flags d) arcs flows i) (sym plain) w.in-Some.ensures.some in
          rw w.first-is (scanned-way arcs flows potentials flags i (to_z w128 (of_z w128 w.in-Some.depth)) c.loop-index.first w.nearer-first.result (record { index = i; depth = to_z w128 (of_z w128 w.in-Some.depth) }) refl refl c.loop-index.invariant is w.nearer-first.ensures.none w.nearer-first.ensures.kept w.nearer-first.ensures.taken)
      | in-None w ↦ rw w.first-is (scanned-full arcs flows potentials flags i c.loop-index.first c.loop-index.invariant w.in-None.ensures.none)
    ]

pub returns-clause-none : goal.returns-clause-none
returns-clause-none c = none-of c.args.arcs.now c.args.flows.now c.args.potentials.now c.args.flags.now c.loop-index.index c.loop-index.first c.requires.one_each (omega (arith, c.loop-index-test.false)) c.loop-index.invariant

pub returns-clause-clear : goal.returns-clause-clear
returns-clause-clear c = clear-of c.args.arcs.now c.args.flows.now c.args.potentials.now c.args.flags.now c.loop-index.index c.loop-index.first c.requires.one_each (omega (arith, c.loop-index-test.false)) c.loop-index.invariant

pub returns-clause-inside : goal.returns-clause-inside
returns-clause-inside c = inside-of c.args.arcs.now c.args.flows.now c.args.potentials.now c.args.flags.now c.loop-index.index c.loop-index.first (c.loop-index.auto.index-end) c.loop-index.invariant

pub returns-clause-is : goal.returns-clause-is
returns-clause-is c = is-of c.args.arcs.now c.args.flows.now c.args.potentials.now c.args.flags.now c.loop-index.index c.loop-index.first c.loop-index.invariant

pub loop-index-init : goal.loop-index-init
loop-index-init c = grind (arith, common_steps)

pub overflow_cast-index : goal.overflow_cast-index
overflow_cast-index c = grind (arith, common_steps)

pub depth_of-requires-clause-arc : goal.depth_of-requires-clause-arc
depth_of-requires-clause-arc c = grind (arith, common_steps)

pub depth_of-requires-clause-flags : goal.depth_of-requires-clause-flags
depth_of-requires-clause-flags c = grind (arith, common_steps)

pub bounds-flows-index : goal.bounds-flows-index
bounds-flows-index c = grind (arith, common_steps)

pub offset_bounds-flows-index : goal.offset_bounds-flows-index
offset_bounds-flows-index c = grind (arith, common_steps)

pub bounds-arcs-index : goal.bounds-arcs-index
bounds-arcs-index c = grind (arith, common_steps)

pub offset_bounds-arcs-index : goal.offset_bounds-arcs-index
offset_bounds-arcs-index c = grind (arith, common_steps)
