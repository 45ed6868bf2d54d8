-- What a lowering keeps.
use Rattle.std.proofs.Common.{◌≡◌, ℕ, ◌+◌, ◌^◌, ◌<◌, Bool, true, false, cond, List, length, get_or, set, inr, ℤ, pos, ◌+ℤ◌, ◌-ℤ◌, ◌*ℤ◌, ◌≤ℤ◌, ◌<ℤ◌, neg_ℤ, nat_eq, vec_len, FitsSigned, to_z, of_z, w64, refl, sym, ◌∙◌, ap, subst, arith}
use Rattle.std.proofs.lemmas.Int.{ints}
use Rattle.std.proofs.lemmas.Bool.Decides.{nat_tests}
use Rattle.std.proofs.lemmas.List.{length-set}
use Rattle.net_normal.specs.declared.problem.FlowArc.{FlowArc}
use Rattle.net_normal.specs.declared.problem.Problem.{Problem}
use Rattle.net_solve.specs.Pseudoflows.{no_arc, arc_at, changed}
use Rattle.net_solve.proofs.Changes.{set-added}
use lib.Signed.{lt_z, le_z}
use Rattle.net_solve.specs.declared.scaling.Machine.{Machine}
use Rattle.net_solve.specs.Runs.{Reaches, IsLeastOut, reduced, factor, epsilon, tail_of}
use Rattle.net_solve.specs.Machines.{IsRunning, state_of, IsDeep, AreDeep, IsEpsilonOptimal, AreEpsilonOptimal, MaySink}
use Rattle.net_solve.proofs.Carrying.{set-cases}
use Rattle.net_solve.proofs.Stepping.{one-step, plain}
use Rattle.std.specs.Vec.{with_item}

both : (p q : Bool) (z src dst newsrc newdst amount : ℤ) → newsrc ≡ src +ℤ cond p (neg_ℤ amount) (pos 0) → newdst ≡ dst +ℤ cond q (neg_ℤ amount) (pos 0) → (z +ℤ newsrc) -ℤ newdst ≡ (((z +ℤ src) -ℤ dst) -ℤ cond p amount (pos 0)) +ℤ cond q amount (pos 0)
both true true z src dst newsrc newdst amount h k = omega (arith, ints, h, k)
both true false z src dst newsrc newdst amount h k = omega (arith, ints, h, k)
both false true z src dst newsrc newdst amount h k = omega (arith, ints, h, k)
both false false z src dst newsrc newdst amount h k = omega (arith, ints, h, k)

-- one potential is lower
pub lowered-reduced : (by : ℕ) (potentials : List ℤ) (arc : FlowArc) (v : ℕ) (amount : ℤ) → v < length potentials → arc.src < length potentials → arc.dst < length potentials
    → reduced by (changed potentials v (neg_ℤ amount)) arc ≡ (reduced by potentials arc -ℤ cond (nat_eq v arc.src) amount (pos 0)) +ℤ cond (nat_eq v arc.dst) amount (pos 0)
lowered-reduced by potentials arc v amount inside src dst =
    let y : ℤ = get_or potentials v (pos 0) +ℤ neg_ℤ amount in
    let p = set-added potentials v arc.src y (neg_ℤ amount) inside src refl in
    let q = set-added potentials v arc.dst y (neg_ℤ amount) inside dst refl in
    both (nat_eq v arc.src) (nat_eq v arc.dst) (arc.cost *ℤ pos by) _ _ _ _ amount p q

-- a lowering leaves no residual arc out below -e
left-one : (forwards p q : Bool) (r new least amount e : ℤ) → new ≡ (r -ℤ cond p amount (pos 0)) +ℤ cond q amount (pos 0) → cond forwards p q ≡ true → pos 0 ≤ℤ least → pos 0 <ℤ amount → amount ≤ℤ (least +ℤ e) → pos 0 ≤ℤ e → least ≤ℤ cond forwards r (neg_ℤ r) → neg_ℤ e ≤ℤ cond forwards new (neg_ℤ new)
left-one true true true r new least amount e is t none some left plus h = omega (arith, ints, is, none, some, left, plus, h)
left-one true true false r new least amount e is t none some left plus h = omega (arith, ints, is, none, some, left, plus, h)
left-one true false q r new least amount e is t none some left plus h = cc
left-one false true true r new least amount e is t none some left plus h = omega (arith, ints, is, none, some, left, plus, h)
left-one false false true r new least amount e is t none some left plus h = omega (arith, ints, is, none, some, left, plus, h)
left-one false p false r new least amount e is t none some left plus h = cc

tail-test : (v : ℕ) (arc : FlowArc) (forwards : Bool) → tail_of arc forwards ≡ v → cond forwards (nat_eq v arc.src) (nat_eq v arc.dst) ≡ true
tail-test v arc true h = grind (arith, nat_tests)
tail-test v arc false h = grind (arith, nat_tests)

pub left-after : (problem : Problem) (flows potentials : List ℤ) (v e : ℕ) (least amount : ℤ) → length potentials ≡ vec_len problem.supplies → v < vec_len problem.supplies
    → IsLeastOut problem (record { flows = flows; potentials = potentials }) v least → pos 0 ≤ℤ least → pos 0 <ℤ amount → amount ≤ℤ (least +ℤ pos e)
    → IsLeastOut problem (record { flows = flows; potentials = changed potentials v (neg_ℤ amount) }) v (neg_ℤ (pos e))
left-after problem flows potentials v e least amount count inside h none some left = λ i forwards l at room.
    let fits = problem.arcs_fit i no_arc (omega (arith, l, problem.arcs.ok.0)) in
    left-one forwards (nat_eq v (arc_at problem i).src) (nat_eq v (arc_at problem i).dst) (reduced (factor problem) potentials (arc_at problem i)) _ least amount (pos e)
    (lowered-reduced (factor problem) potentials (arc_at problem i) v amount (omega (arith, count, inside)) (omega (arith, count, fits.src)) (omega (arith, count, fits.dst)))
    (tail-test v (arc_at problem i) forwards at) none some left (omega (arith, ints)) (h i forwards l at room)

near-one : (p q : Bool) (r new amount e : ℤ) (arc : FlowArc) (flow : ℤ) → new ≡ (r -ℤ cond p amount (pos 0)) +ℤ cond q amount (pos 0) → pos 0 <ℤ amount → IsEpsilonOptimal e r arc flow
    → (p ≡ true → flow <ℤ arc.cap → neg_ℤ e ≤ℤ new) → (q ≡ true → arc.low <ℤ flow → neg_ℤ e ≤ℤ neg_ℤ new) → IsEpsilonOptimal e new arc flow
near-one true true r new amount e arc flow is some h out into = record { forwards = λ l. omega (arith, ints, is, h.forwards l); backwards = λ l. omega (arith, ints, is, h.backwards l) }
near-one true false r new amount e arc flow is some h out into = record { forwards = λ l. out refl l; backwards = λ l. omega (arith, ints, is, some, h.backwards l) }
near-one false true r new amount e arc flow is some h out into = record { forwards = λ l. omega (arith, ints, is, some, h.forwards l); backwards = λ l. omega (arith, ints, into refl l) }
near-one false false r new amount e arc flow is some h out into = record { forwards = λ l. omega (arith, ints, is, h.forwards l); backwards = λ l. omega (arith, ints, is, h.backwards l) }

same-node : (v u : ℕ) → nat_eq v u ≡ true → u ≡ v
same-node v u h = grind (arith, nat_tests)

pub near-lowered : (problem : Problem) (flows potentials : List ℤ) (v e : ℕ) (amount : ℤ) → length potentials ≡ vec_len problem.supplies → v < vec_len problem.supplies → pos 0 <ℤ amount → AreEpsilonOptimal problem e flows potentials
    → IsLeastOut problem (record { flows = flows; potentials = changed potentials v (neg_ℤ amount) }) v (neg_ℤ (pos e)) → AreEpsilonOptimal problem e flows (changed potentials v (neg_ℤ amount))
near-lowered problem flows potentials v e amount count inside some h left = λ i l.
    let fits = problem.arcs_fit i no_arc (omega (arith, l, problem.arcs.ok.0)) in
    near-one (nat_eq v (arc_at problem i).src) (nat_eq v (arc_at problem i).dst) (reduced (factor problem) potentials (arc_at problem i)) _ amount (pos e) (arc_at problem i) (get_or flows i (pos 0))
    (lowered-reduced (factor problem) potentials (arc_at problem i) v amount (omega (arith, count, inside)) (omega (arith, count, fits.src)) (omega (arith, count, fits.dst))) some (h i l)
    (λ t m. left i true l (same-node v (arc_at problem i).src t) (omega (arith, ints, m)))
    (λ t m. left i false l (same-node v (arc_at problem i).dst t) (omega (arith, ints, m)))

pub deep-lowered : (nodes v : ℕ) (potentials : List ℤ) (amount : ℤ) → AreDeep nodes potentials → v < nodes → IsDeep (get_or potentials v (pos 0) -ℤ amount) → AreDeep nodes (changed potentials v (neg_ℤ amount))
deep-lowered nodes v potentials amount h inside deep = record {
  count = length-set potentials v (get_or potentials v (pos 0) +ℤ neg_ℤ amount) ∙ h.count;
  each = λ u l. set-cases (λ k x. IsDeep x) potentials v (get_or potentials v (pos 0) +ℤ neg_ℤ amount) (pos 0) u (omega (arith, h.count, inside)) (record { above = omega (arith, ints, deep.above); below = omega (arith, ints, deep.below) }) (λ _. h.each u l);
}

-- what the tests of the code show
left-of : (least amount e : ℤ) → lt_z least (amount -ℤ e) ≡ false → amount ≤ℤ (least +ℤ e)
left-of least amount e h =
    let k : (amount -ℤ e) ≤ℤ least = grind (arith, ints) in
    omega (arith, ints, k)

above-of : (x : ℤ) → le_z (neg_ℤ (pos (2 ^ 61))) x ≡ true → neg_ℤ (pos (2 ^ 61)) ≤ℤ x
above-of x h = grind (arith, ints)

pub may-sink : (potential least amount e : ℤ) → IsDeep potential → FitsSigned w64 amount → FitsSigned w64 least → FitsSigned w64 e → pos 0 ≤ℤ e → lt_z (to_z w64 (of_z w64 least)) (pos 0) ≡ false → le_z (to_z w64 (of_z w64 amount)) (pos 0) ≡ false
    → lt_z (pos (2 ^ 61)) (to_z w64 (of_z w64 amount)) ≡ false → lt_z (to_z w64 (of_z w64 least)) (to_z w64 (of_z w64 (to_z w64 (of_z w64 amount) -ℤ to_z w64 (of_z w64 e)))) ≡ false
    → le_z (neg_ℤ (pos (2 ^ 61))) (to_z w64 (of_z w64 (to_z w64 (of_z w64 potential) -ℤ to_z w64 (of_z w64 amount)))) ≡ true → MaySink potential least amount e
may-sink potential least amount e deep f g h plus a b c d t =
    let p = plain amount f in
    let q = plain least g in
    let r = plain e h in
    let below = deep.below in
    let above = deep.above in
    let none : pos 0 ≤ℤ least = grind (arith, ints) in
    let some : pos 0 <ℤ amount = grind (arith, ints) in
    let most : amount ≤ℤ pos (2 ^ 61) = grind (arith, ints) in
    let diff : to_z w64 (of_z w64 (to_z w64 (of_z w64 amount) -ℤ to_z w64 (of_z w64 e))) ≡ amount -ℤ e = omega (arith, ints) in
    let low : to_z w64 (of_z w64 (to_z w64 (of_z w64 potential) -ℤ to_z w64 (of_z w64 amount))) ≡ potential -ℤ amount = omega (arith, ints) in
    record {
      none = none;
      some = some;
      left = left-of least amount e (subst (λ (x : ℤ). lt_z x (amount -ℤ e) ≡ false) q (subst (λ (x : ℤ). lt_z (to_z w64 (of_z w64 least)) x ≡ false) diff d));
      deep = record { above = above-of (potential -ℤ amount) (subst (λ (x : ℤ). le_z (neg_ℤ (pos (2 ^ 61))) x ≡ true) low t); below = omega (arith, ints) };
    }

pub running-lowered : (problem : Problem) (m : Machine) (node : ℕ) (least amount x : ℤ) → IsRunning problem m → node < vec_len problem.supplies → pos 0 <ℤ get_or m.carried.excess.items node (pos 0) → m.steps < m.budget → IsLeastOut problem (state_of m) node least
    → MaySink (get_or m.potentials.items node (pos 0)) least amount m.epsilon → x ≡ get_or m.potentials.items node (pos 0) +ℤ neg_ℤ amount → IsRunning problem (record m { potentials = with_item m.potentials node x; steps = m.steps + 1 })
running-lowered problem m node least amount x h inside excess under out sink is =
    let ps = m.potentials.items in
    let e = epsilon problem m.phases in
    let count = h.standing.deep.count in
    let left : amount ≤ℤ (least +ℤ pos e) = subst (λ (y : ℤ). amount ≤ℤ (least +ℤ y)) h.epsilon_is sink.left in
    let after = left-after problem m.carried.flows.items ps node e least amount count inside out sink.none sink.some left in
    let has = subst (λ (y : ℤ). pos 0 <ℤ y) (h.standing.carried.balance node inside) excess in
    let none : IsLeastOut problem (state_of m) node (pos 0) = λ i forwards l at room. omega (arith, ints, out i forwards l at room, sink.none) in
    let whole : set ps node x ≡ changed ps node (neg_ℤ amount) = ap (set ps node) is in
    record {
      standing = record {
        carried = h.standing.carried;
        deep = subst (AreDeep (vec_len problem.supplies)) (sym whole) (deep-lowered (vec_len problem.supplies) node ps amount h.standing.deep inside sink.deep);
        run = subst (λ (qs : List ℤ). Reaches problem m.phases (m.steps + 1) (record { flows = m.carried.flows.items; potentials = qs })) (sym whole)
            (one-step problem m.phases m.steps _ _ h.some h.standing.run (inr (record {
              node = node;
              amount = amount;
              inside = inside;
              some = sink.some;
              excess = has;
              none = none;
              left = after;
              flows = refl;
              potentials = refl;
            })));
        within = omega (arith, under);
      };
      some = h.some;
      epsilon_is = h.epsilon_is;
      near = subst (AreEpsilonOptimal problem e m.carried.flows.items) (sym whole) (near-lowered problem m.carried.flows.items ps node e amount count inside sink.some h.near after);
    }
