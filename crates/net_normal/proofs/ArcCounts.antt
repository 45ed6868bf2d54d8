-- An arc counted at its ends, node by node.
use Rattle.std.proofs.Common.{◌≡◌, ◌*◌, ◌^◌, true, false, cond, List, length, get_or, ℤ, sym, ◌∙◌, ap, subst, arith, All}
use Rattle.std.proofs.lemmas.Int.{ints}
use Rattle.net_normal.specs.Limits.{IsSized, value_limit, flow_limit}
use Rattle.net_normal.specs.Assignments.{enters}
use Rattle.net_normal.specs.NodeSums.{AreSized, entered, counted_head, CountsHead}
use Rattle.net_normal.specs.declared.instance.InstArc.{InstArc}
use Rattle.net_normal.specs.declared.node_sums.NodeSums.{NodeSums}
use Rattle.net_normal.specs.declared.profile.Profile.{Profile}
use Rattle.net_normal.proofs.Sizes.{offset_sized}

pub same_sums : (s t : NodeSums) → s.least ≡ t.least → s.most ≡ t.most → s.shift ≡ t.shift → s ≡ t
same_sums s t p q r =
    ap (λ (x : ℤ). let new : NodeSums = record { least = x; most = s.most; shift = s.shift } in new) p
    ∙ ap (λ (x : ℤ). let new : NodeSums = record { least = t.least; most = x; shift = s.shift } in new) q
    ∙ ap (λ (x : ℤ). let new : NodeSums = record { least = t.least; most = t.most; shift = x } in new) r

entered_sized : (p : Profile) (arc : InstArc) (sums : NodeSums) → IsSized value_limit arc.lower → IsSized value_limit arc.upper → AreSized (2 * 10 ^ 17) sums → AreSized flow_limit (entered p arc sums)
entered_sized p arc sums lower upper h =
    let offset = offset_sized p arc lower in
    record {
      least = record { above = omega (arith, ints, lower.above, h.least.above); below = omega (arith, ints, lower.below, h.least.below) };
      most = record { above = omega (arith, ints, upper.above, h.most.above); below = omega (arith, ints, upper.below, h.most.below) };
      shift = record { above = omega (arith, ints, offset.above, h.shift.above); below = omega (arith, ints, offset.below, h.shift.below) };
    }

kept_sized : (sums : NodeSums) → AreSized (2 * 10 ^ 17) sums → AreSized flow_limit sums
kept_sized sums h = record {
  least = record { above = omega (arith, ints, h.least.above); below = omega (arith, ints, h.least.below) };
  most = record { above = omega (arith, ints, h.most.above); below = omega (arith, ints, h.most.below) };
  shift = record { above = omega (arith, ints, h.shift.above); below = omega (arith, ints, h.shift.below) };
}

-- sums stay small where one arc is counted
pub head_sized : (p : Profile) (arc : InstArc) (old new : List NodeSums) → IsSized value_limit arc.lower → IsSized value_limit arc.upper → length new ≡ length old → All (AreSized (2 * 10 ^ 17)) old → CountsHead p arc old new → All (AreSized flow_limit) new
head_sized p arc old new lower upper same h counts v d inside =
    let here = h v d (omega arith) in
    let either : AreSized flow_limit (counted_head p arc v (get_or old v d)) = elim (enters v arc) as (λ b. AreSized flow_limit (cond b (entered p arc (get_or old v d)) (get_or old v d))) [
      | true ↦ entered_sized p arc (get_or old v d) lower upper here
      | false ↦ kept_sized (get_or old v d) here
    ] in
    subst (AreSized flow_limit) (sym (counts v d (omega arith))) either
