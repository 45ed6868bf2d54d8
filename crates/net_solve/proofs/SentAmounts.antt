-- What goes to a node over the arc by which it came in.
use Rattle.std.proofs.Common.{◌≡◌, ℕ, ◌*◌, ◌<◌, ◌^◌, Bool, true, false, cond, List, length, get_or, ℤ, pos, neg_ℤ, ◌+ℤ◌, ◌-ℤ◌, ◌≤ℤ◌, ◌<ℤ◌, nat_eq, to_z, of_z, vec_len, sym, ◌∙◌, ap, subst, arith}
use Rattle.std.specs.Int.{w128}
use lib.Signed.{lt_z}
use Rattle.std.proofs.lemmas.Int.{ints}
use Rattle.net_normal.specs.Limits.{IsSized, IsFlowArcOf, flow_limit}
use Rattle.net_normal.specs.Flows.{IsWithinCapacity}
use Rattle.net_normal.specs.declared.problem.FlowArc.{FlowArc}
use Rattle.net_normal.specs.declared.problem.Problem.{Problem}
use Rattle.net_check.proofs.Pairs.{zipped-lengths, zipped-at}
use Rattle.net_solve.specs.Pseudoflows.{IsUnderWay, no_arc, arc_at}
use Rattle.net_solve.specs.Forests.{head_of}
use Rattle.net_solve.specs.declared.forest.Joined.{Joined}
use Rattle.net_solve.proofs.Changes.{excess-sized}

-- what is known of the arc, its flow and the node
pub record Known (problem : Problem) (flows excess : List ℤ) (j : Joined) : Type 0 where
  pub arc : j.index < length problem.arcs.items
  pub flow : j.index < length flows
  pub fits : IsFlowArcOf (vec_len problem.supplies) (arc_at problem j.index)
  pub within : IsWithinCapacity (arc_at problem j.index) (get_or flows j.index (pos 0))
  pub node : j.node < vec_len problem.supplies
  pub place : j.node < length excess
  pub size : IsSized (2 * 10 ^ 24) (get_or excess j.node (pos 0))

pub one-of : (b : Bool) (src dst n : ℕ) → src < n → dst < n → cond b dst src < n
one-of true src dst n h k = k
one-of false src dst n h k = h

pub known : (problem : Problem) (flows potentials excess : List ℤ) (j : Joined) → IsUnderWay problem flows potentials excess → j.index < vec_len problem.arcs → head_of j (arc_at problem j.index) ≡ j.node → Known problem flows excess j
known problem flows potentials excess j h l head =
    let arcs = problem.arcs.items in
    let n = vec_len problem.supplies in
    let inside : j.index < length arcs = omega (arith, l, problem.arcs.ok.0) in
    let fits = problem.arcs_fit j.index no_arc inside in
    let node : j.node < n = subst (λ (v : ℕ). v < n) head (one-of j.forwards (arc_at problem j.index).src (arc_at problem j.index).dst n fits.src fits.dst) in
    record {
      arc = inside;
      flow = omega (arith, inside, zipped-lengths IsWithinCapacity arcs flows h.capacity);
      fits = fits;
      within = zipped-at IsWithinCapacity arcs flows h.capacity j.index no_arc (pos 0) inside;
      node = node;
      place = omega (arith, node, h.excess_count);
      size = excess-sized problem flows potentials excess h j.node node;
    }

pub room-small : (b : Bool) (n : ℕ) (arc : FlowArc) (x : ℤ) → IsFlowArcOf n arc → IsWithinCapacity arc x → IsSized flow_limit (cond b (arc.cap -ℤ x) (x -ℤ arc.low))
room-small true n arc x h k = record { above = omega (arith, ints, h.low, h.cap, k.low, k.cap); below = omega (arith, ints, h.low, h.cap, k.low, k.cap) }
room-small false n arc x h k = record { above = omega (arith, ints, h.low, h.cap, k.low, k.cap); below = omega (arith, ints, h.low, h.cap, k.low, k.cap) }

pub sent-within : (b : Bool) (arc : FlowArc) (x d : ℤ) → IsWithinCapacity arc x → pos 0 <ℤ d → d ≤ℤ cond b (arc.cap -ℤ x) (x -ℤ arc.low) → IsWithinCapacity arc (x +ℤ cond b d (neg_ℤ d))
sent-within true arc x d k some small = record { low = omega (arith, ints, k.low, some); cap = omega (arith, ints, small) }
sent-within false arc x d k some small = record { low = omega (arith, ints, small); cap = omega (arith, ints, k.cap, some) }

pub signed-small : (b : Bool) (d : ℤ) → IsSized flow_limit d → IsSized flow_limit (cond b d (neg_ℤ d))
signed-small true d h = h
signed-small false d h = record { above = omega (arith, ints, h.below); below = omega (arith, ints, h.above) }

turned : (p q : Bool) (e0 e1 d : ℤ) → e1 ≡ (e0 -ℤ cond p (neg_ℤ d) (pos 0)) +ℤ cond q (neg_ℤ d) (pos 0) → e1 ≡ (e0 -ℤ cond q d (pos 0)) +ℤ cond p d (pos 0)
turned true true e0 e1 d h = omega (arith, ints, h)
turned true false e0 e1 d h = omega (arith, ints, h)
turned false true e0 e1 d h = omega (arith, ints, h)
turned false false e0 e1 d h = omega (arith, ints, h)

either-way : (b : Bool) (src dst w : ℕ) (e0 e1 d : ℤ) → e1 ≡ (e0 -ℤ cond (nat_eq src w) (cond b d (neg_ℤ d)) (pos 0)) +ℤ cond (nat_eq dst w) (cond b d (neg_ℤ d)) (pos 0)
    → e1 ≡ (e0 -ℤ cond (nat_eq (cond b src dst) w) d (pos 0)) +ℤ cond (nat_eq (cond b dst src) w) d (pos 0)
either-way true src dst w e0 e1 d h = h
either-way false src dst w e0 e1 d h = turned (nat_eq src w) (nat_eq dst w) e0 e1 d h

pub moved : (b : Bool) (src dst node w : ℕ) (e0 e1 amount d : ℤ) → amount ≡ cond b d (neg_ℤ d) → cond b dst src ≡ node → e1 ≡ (e0 -ℤ cond (nat_eq src w) amount (pos 0)) +ℤ cond (nat_eq dst w) amount (pos 0)
    → e1 ≡ (e0 -ℤ cond (nat_eq (cond b src dst) w) d (pos 0)) +ℤ cond (nat_eq node w) d (pos 0)
moved b src dst node w e0 e1 amount d is head h =
    subst (λ (v : ℕ). e1 ≡ (e0 -ℤ cond (nat_eq (cond b src dst) w) d (pos 0)) +ℤ cond (nat_eq v w) d (pos 0)) head
    (either-way b src dst w e0 e1 d (subst (λ (a : ℤ). e1 ≡ (e0 -ℤ cond (nat_eq src w) a (pos 0)) +ℤ cond (nat_eq dst w) a (pos 0)) is h))

-- what a test of an excess says
plain_128 : (x z : ℤ) → IsSized (2 * 10 ^ 24) z → x ≡ z → to_z w128 (of_z w128 x) ≡ z
plain_128 x z h e = omega (arith, ints, e, h.above, h.below)

not-less : (x : ℤ) → lt_z (pos 0) x ≡ false → x ≤ℤ pos 0
not-less x e = grind (arith, ints)

less : (x y : ℤ) → lt_z x y ≡ true → x <ℤ y
less x y e = grind (arith, ints)

not-below : (x : ℤ) → lt_z x (pos 0) ≡ false → pos 0 ≤ℤ x
not-below x e = grind (arith, ints)

pub not-source : (x z : ℤ) → IsSized (2 * 10 ^ 24) z → x ≡ z → lt_z (pos 0) (to_z w128 (of_z w128 x)) ≡ false → z ≤ℤ pos 0
not-source x z h e test = not-less z (ap (lt_z (pos 0)) (sym (plain_128 x z h e)) ∙ test)

pub is-source : (x z : ℤ) → IsSized (2 * 10 ^ 24) z → x ≡ z → lt_z (pos 0) (to_z w128 (of_z w128 x)) ≡ true → pos 0 <ℤ z
is-source x z h e test = less (pos 0) z (ap (lt_z (pos 0)) (sym (plain_128 x z h e)) ∙ test)

pub is-deficit : (x z : ℤ) → IsSized (2 * 10 ^ 24) z → x ≡ z → lt_z (to_z w128 (of_z w128 x)) (pos 0) ≡ true → z <ℤ pos 0
is-deficit x z h e test = less z (pos 0) (ap (λ (y : ℤ). lt_z y (pos 0)) (sym (plain_128 x z h e)) ∙ test)

pub no-deficit : (x z : ℤ) → IsSized (2 * 10 ^ 24) z → x ≡ z → lt_z (to_z w128 (of_z w128 x)) (pos 0) ≡ false → pos 0 ≤ℤ z
no-deficit x z h e test = not-below z (ap (λ (y : ℤ). lt_z y (pos 0)) (sym (plain_128 x z h e)) ∙ test)
