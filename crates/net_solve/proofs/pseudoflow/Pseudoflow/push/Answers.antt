use Rattle.std.proofs.Common.{◌≡◌, ℕ, ◌*◌, ◌<◌, ◌^◌, List, length, get_or, set, cond, nat_eq, Bool, true, false, ℤ, pos, ◌+ℤ◌, ◌-ℤ◌, to_z, of_z, sym, ap, subst, arith, vec_len}
use Rattle.std.proofs.lemmas.Grind.{common_steps}
use Rattle.std.proofs.lemmas.Int.{ints}
use Rattle.std.proofs.lemmas.List.{get_or_read}
use mir.Syntax.{w128}
use Rattle.net_normal.specs.Limits.{IsSized, flow_limit}
use Rattle.net_normal.specs.Flows.{IsWithinCapacity}
use Rattle.net_normal.specs.declared.problem.FlowArc.{FlowArc}
use Rattle.net_normal.specs.declared.problem.Problem.{Problem}
use Rattle.net_check.specs.Certificates.{IsComplementary, reduced_cost}
use Rattle.net_check.proofs.Pairs.{zipped-lengths, zipped-at, within-sized}
use Rattle.net_solve.specs.Pseudoflows.{no_arc, arc_at, IsUnderWay}
use Rattle.net_solve.proofs.Changes.{zipped-set, outflow-set, two_steps, excess-sized, added, added-fits, level-complementary}
use Rattle.net_solve.proofs.pseudoflow.Pseudoflow.push.Goals as goal

-- what is known of the arc and its flow
record Known (problem : Problem) (flows : List ℤ) (i : ℕ) (amount : ℤ) : Type 0 where
  pub arc : i < length problem.arcs.items
  pub flow : i < length flows
  pub src : (arc_at problem i).src < vec_len problem.supplies
  pub dst : (arc_at problem i).dst < vec_len problem.supplies
  pub old : IsSized flow_limit (get_or flows i (pos 0))
  pub new : IsSized flow_limit (get_or flows i (pos 0) +ℤ amount)

known : (problem : Problem) (flows potentials excess : List ℤ) (i : ℕ) (amount : ℤ) → IsUnderWay problem flows potentials excess → i < vec_len problem.arcs → IsWithinCapacity (arc_at problem i) (get_or flows i (pos 0) +ℤ amount) → Known problem flows i amount
known problem flows potentials excess i amount h l within =
    let arcs = problem.arcs.items in
    let inside : i < length arcs = omega (arith, l, problem.arcs.ok.0) in
    let fits = problem.arcs_fit i no_arc inside in
    record {
      arc = inside;
      flow = omega (arith, inside, zipped-lengths IsWithinCapacity arcs flows h.capacity);
      src = fits.src;
      dst = fits.dst;
      old = within-sized (vec_len problem.supplies) (arc_at problem i) (get_or flows i (pos 0)) fits (zipped-at IsWithinCapacity arcs flows h.capacity i no_arc (pos 0) inside);
      new = within-sized (vec_len problem.supplies) (arc_at problem i) (get_or flows i (pos 0) +ℤ amount) fits within;
    }

-- the flow after the change
after : (problem : Problem) (flows potentials excess new : List ℤ) (i : ℕ) (amount y : ℤ) → IsUnderWay problem flows potentials excess → Known problem flows i amount → reduced_cost potentials (arc_at problem i) ≡ pos 0 → IsWithinCapacity (arc_at problem i) (get_or flows i (pos 0) +ℤ amount)
    → y ≡ get_or flows i (pos 0) +ℤ amount → length new ≡ vec_len problem.supplies
    → ((v : ℕ) → v < vec_len problem.supplies → get_or new v (pos 0) ≡ (get_or excess v (pos 0) -ℤ cond (nat_eq (arc_at problem i).src v) amount (pos 0)) +ℤ cond (nat_eq (arc_at problem i).dst v) amount (pos 0))
    → IsUnderWay problem (set flows i y) potentials new
after problem flows potentials excess new i amount y h k level within is count changes =
    let arcs = problem.arcs.items in
    subst (λ (z : ℤ). IsUnderWay problem (set flows i z) potentials new) (sym is)
    (record {
      potentials_count = h.potentials_count;
      excess_count = count;
      capacity = zipped-set IsWithinCapacity arcs flows i no_arc (get_or flows i (pos 0) +ℤ amount) h.capacity within;
      slackness = zipped-set (IsComplementary potentials) arcs flows i no_arc (get_or flows i (pos 0) +ℤ amount) h.slackness (level-complementary potentials (arc_at problem i) (get_or flows i (pos 0) +ℤ amount) level);
      balance = λ v l. omega (arith, ints, h.balance v l, changes v l, outflow-set arcs flows i no_arc amount v k.arc k.flow);
    })

pub index_mut-requires : goal.index_mut-requires
index_mut-requires c =
    let problem = c.args.problem.now in
    let flows = c.args.self.now.flows in
    omega (arith, c.requires.index, problem.arcs.ok.0, flows.ok.0, zipped-lengths IsWithinCapacity problem.arcs.items flows.items c.requires.under_way.capacity)

pub overflow_add-index_mut : goal.overflow_add-index_mut
overflow_add-index_mut c =
    let k = known c.args.problem.now c.args.self.now.flows.items _ _ c.args.index c.args.amount c.requires.under_way c.requires.index c.requires.within in
    added-fits _ _ c.args.amount (get_or_read c.args.self.now.flows.items _ _ k.flow c.index_mut.ensures.value (pos 0)) k.old c.requires.amount k.new

pub add_at-requires-clause-node : goal.add_at-requires-clause-node
add_at-requires-clause-node c =
    let problem = c.args.problem.now in
    let k = known problem c.args.self.now.flows.items _ _ c.args.index c.args.amount c.requires.under_way c.requires.index c.requires.within in
    let arc : c.index-arc.result.now ≡ arc_at problem c.args.index = get_or_read problem.arcs.items _ _ k.arc c.index-arc.ensures no_arc in
    omega (arith, ap (λ (a : FlowArc). a.src) arc, k.src, c.requires.under_way.excess_count, c.args.self.now.excess.ok.0)

pub add_at-requires-clause-size : goal.add_at-requires-clause-size
add_at-requires-clause-size c =
    let problem = c.args.problem.now in
    let k = known problem c.args.self.now.flows.items _ _ c.args.index c.args.amount c.requires.under_way c.requires.index c.requires.within in
    let arc : c.index-arc.result.now ≡ arc_at problem c.args.index = get_or_read problem.arcs.items _ _ k.arc c.index-arc.ensures no_arc in
    let small = excess-sized problem _ _ c.args.self.now.excess.items c.requires.under_way (c.index-arc.result.now).src (omega (arith, ap (λ (a : FlowArc). a.src) arc, k.src)) in
    record { above = omega (arith, ints, small.above); below = omega (arith, ints, small.below) }

-- an amount away from a small number
near : (n : ℕ) (b : Bool) (x y z : ℤ) → IsSized (2 * 10 ^ 24) x → IsSized flow_limit z → y ≡ x +ℤ cond b z (pos 0) → IsSized (10 ^ 25) y
near n true x y z h k e = record { above = omega (arith, ints, h.above, k.above, e); below = omega (arith, ints, h.below, k.below, e) }
near n false x y z h k e = record { above = omega (arith, ints, h.above, e); below = omega (arith, ints, h.below, e) }

pub add_at-requires-2-clause-size : goal.add_at-requires-2-clause-size
add_at-requires-2-clause-size c =
    let problem = c.args.problem.now in
    let k = known problem c.args.self.now.flows.items _ _ c.args.index c.args.amount c.requires.under_way c.requires.index c.requires.within in
    let arc : c.index-arc.result.now ≡ arc_at problem c.args.index = get_or_read problem.arcs.items _ _ k.arc c.index-arc.ensures no_arc in
    let l : c.index-arc.result.now.dst < vec_len problem.supplies = omega (arith, ap (λ (a : FlowArc). a.dst) arc, k.dst) in
    let m : c.index-arc.result.now.dst < vec_len c.args.self.now.excess = omega (arith, l, c.requires.under_way.excess_count, c.args.self.now.excess.ok.0) in
    let small = excess-sized problem _ _ c.args.self.now.excess.items c.requires.under_way c.index-arc.result.now.dst l in
    let amount = c.requires.amount in
    near 0 (nat_eq c.index-arc.result.now.src c.index-arc.result.now.dst) (get_or c.args.self.now.excess.items c.index-arc.result.now.dst (pos 0)) (get_or c.add_at.new.numbers.items c.index-arc.result.now.dst (pos 0)) (to_z w128 (of_z w128 (pos 0 -ℤ to_z w128 (of_z w128 c.from-amount.result)))) small (record { above = omega (arith, ints, c.from-amount.ensures, amount.above, amount.below); below = omega (arith, ints, c.from-amount.ensures, amount.above, amount.below) }) (c.add_at.ensures.value c.index-arc.result.now.dst m)

pub returns-clause-excess : goal.returns-clause-excess
returns-clause-excess c = λ v l.
    let problem = c.args.problem.now in
    let k = known problem c.args.self.now.flows.items _ _ c.args.index c.args.amount c.requires.under_way c.requires.index c.requires.within in
    let arc : c.index-arc.result.now ≡ arc_at problem c.args.index = get_or_read problem.arcs.items _ _ k.arc c.index-arc.ensures no_arc in
    let m : v < vec_len c.args.self.now.excess = omega (arith, l, c.requires.under_way.excess_count, c.args.self.now.excess.ok.0) in
    let n : v < vec_len c.add_at.new.numbers = omega (arith, m, c.add_at.ensures.len) in
    let amount = c.requires.amount in
    let steps = two_steps (nat_eq c.index-arc.result.now.src v) (nat_eq c.index-arc.result.now.dst v) (get_or c.args.self.now.excess.items v (pos 0)) (get_or c.add_at.new.numbers.items v (pos 0)) (get_or c.add_at-2.new.numbers.items v (pos 0)) c.args.amount (to_z w128 (of_z w128 (pos 0 -ℤ to_z w128 (of_z w128 c.from-amount.result)))) (to_z w128 (of_z w128 c.from-amount.result)) (c.add_at.ensures.value v m) (c.add_at-2.ensures.value v n) (omega (arith, ints, c.from-amount.ensures, amount.above, amount.below)) (omega (arith, ints, c.from-amount.ensures, amount.above, amount.below)) in
    subst (λ (a : FlowArc). get_or c.add_at-2.new.numbers.items v (pos 0) ≡ (get_or c.args.self.now.excess.items v (pos 0) -ℤ cond (nat_eq a.src v) c.args.amount (pos 0)) +ℤ cond (nat_eq a.dst v) c.args.amount (pos 0)) arc steps

pub returns-clause-under_way : goal.returns-clause-under_way
returns-clause-under_way c =
    let problem = c.args.problem.now in
    let k = known problem c.args.self.now.flows.items _ _ c.args.index c.args.amount c.requires.under_way c.requires.index c.requires.within in
    after problem c.args.self.now.flows.items c.args.self.now.potentials.items c.args.self.now.excess.items c.add_at-2.new.numbers.items c.args.index c.args.amount _ c.requires.under_way k c.requires.level c.requires.within
    (added _ _ c.args.amount (get_or_read c.args.self.now.flows.items _ _ k.flow c.index_mut.ensures.value (pos 0)) k.old c.requires.amount k.new)
    (omega (arith, c.add_at-2.new.numbers.ok.0, c.add_at-2.ensures.len, c.add_at.ensures.len, c.requires.under_way.excess_count, c.args.self.now.excess.ok.0))
    (returns-clause-excess c)

pub returns-clause-flows : goal.returns-clause-flows
returns-clause-flows c =
    let problem = c.args.problem.now in
    let k = known problem c.args.self.now.flows.items _ _ c.args.index c.args.amount c.requires.under_way c.requires.index c.requires.within in
    ap (λ (y : ℤ). set c.args.self.now.flows.items c.args.index y) (added _ _ c.args.amount (get_or_read c.args.self.now.flows.items _ _ k.flow c.index_mut.ensures.value (pos 0)) k.old c.requires.amount k.new)

pub add_at-requires-clause-amount : goal.add_at-requires-clause-amount
add_at-requires-clause-amount c = grind (arith, common_steps)

pub overflow_sub-amount : goal.overflow_sub-amount
overflow_sub-amount c = grind (arith, common_steps)

pub add_at-requires-2-clause-amount : goal.add_at-requires-2-clause-amount
add_at-requires-2-clause-amount c = grind (arith, common_steps)

pub add_at-requires-2-clause-node : goal.add_at-requires-2-clause-node
add_at-requires-2-clause-node c = grind (arith, common_steps)
