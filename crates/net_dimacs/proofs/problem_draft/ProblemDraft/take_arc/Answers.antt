use Rattle.std.proofs.Common.{◌≡◌, false, length, refl, sym, ap, ◌∙◌, arith, Some, None, Ok, w64}
use Rattle.std.proofs.lemmas.Grind.{common_steps}
use Rattle.std.proofs.lemmas.Int.{to_z-of_z}
use Rattle.std.specs.Prelude.{nat_le}
use Rattle.std.proofs.lemmas.Bool.Decides.{nat_tests}
use Rattle.net_dimacs.specs.Drafts.{sketch_of}
use Rattle.net_dimacs.proofs.DraftSteps.{with_arc_is}
use Rattle.net_dimacs.proofs.problem_draft.ProblemDraft.take_arc.Goals as goal

pub returns-in-Some-bounds_fault : goal.returns-in-Some-bounds_fault
returns-in-Some-bounds_fault c =
    let room : nat_le c.args.self.now.arc_count (length c.args.self.now.arcs.items) ≡ false = grind (arith, nat_tests) in
    with_arc_is (sketch_of c.args.self.now) c.args.src c.args.dst c.args.low c.args.cap c.args.cost _ _ _ _ _ c.in-Some.src c.in-Some-place_of.dst (Some c.in-Some-bounds_fault.fault)
    (to_z-of_z w64 c.args.src c.ranges.src) (to_z-of_z w64 c.args.dst c.ranges.dst) (to_z-of_z w64 c.args.low c.ranges.low) (to_z-of_z w64 c.args.cap c.ranges.cap) (to_z-of_z w64 c.args.cost c.ranges.cost)
    room c.in-Some.ensures.value c.in-Some-place_of.ensures.value c.in-Some-bounds_fault.ensures.value

pub push_arc-requires-clause-arc : goal.push_arc-requires-clause-arc
push_arc-requires-clause-arc c = record {
  src = c.in-Some.ensures.within;
  dst = c.in-Some-place_of.ensures.within;
  low = c.in_default-bounds_fault.ensures.low refl;
  room = c.in_default-bounds_fault.ensures.room refl;
  cap = c.in_default-bounds_fault.ensures.cap refl;
  cost = c.in_default-bounds_fault.ensures.cost refl;
}

pub returns : goal.returns
returns c =
    let room : nat_le c.args.self.now.arc_count (length c.args.self.now.arcs.items) ≡ false = grind (arith, nat_tests) in
    with_arc_is (sketch_of c.args.self.now) c.args.src c.args.dst c.args.low c.args.cap c.args.cost _ _ _ _ _ c.in-Some.src c.in-Some-place_of.dst None
    (to_z-of_z w64 c.args.src c.ranges.src) (to_z-of_z w64 c.args.dst c.ranges.dst) (to_z-of_z w64 c.args.low c.ranges.low) (to_z-of_z w64 c.args.cap c.ranges.cap) (to_z-of_z w64 c.args.cost c.ranges.cost)
    room c.in-Some.ensures.value c.in-Some-place_of.ensures.value c.in_default-bounds_fault.ensures.value
    ∙ ap Ok (sym c.push_arc.ensures)

pub push_arc-requires-clause-room : goal.push_arc-requires-clause-room
push_arc-requires-clause-room c = grind (arith, common_steps)

pub returns-then-len-self : goal.returns-then-len-self
returns-then-len-self c = grind (arith, common_steps)

pub returns-in_default-place_of : goal.returns-in_default-place_of
returns-in_default-place_of c = grind (arith, common_steps)

pub returns-in_default : goal.returns-in_default
returns-in_default c = grind (arith, common_steps)
