-- The arcs of a network beside those of its normal form: a flow and its offset make the number that the model's arc has.
use Rattle.std.proofs.Common.{◌≡◌, ◌≢◌, ℕ, suc, Option, Some, None, List, [], ◌∷◌, length, map, ℤ, ◌-ℤ◌, ◌≤ℤ◌, neg_ℤ, nat_eq, unwrap_or, refl, ◌∙◌, ap, arith}
use Rattle.std.proofs.lemmas.Int.{ints}
use Rattle.std.proofs.lemmas.Bool.{ne_eqb}
use Rattle.std.specs.List.{AllZip}
use Rattle.net_normal.specs.Sums.{is_node, price_of}
use Rattle.net_normal.specs.Assignments.{IsWithinBounds, enters, leaves, net_inflow}
use Rattle.net_normal.specs.Flows.{IsWithinCapacity, net_outflow}
use Rattle.net_normal.specs.Links.{signed}
use Rattle.net_normal.specs.NormalForm.{offset_of, offsets_of, flow_arc_of}
use Rattle.net_normal.specs.declared.instance.Sense.{Sense}
use Rattle.net_normal.specs.declared.instance.Sense.TheVariants.{Minimise, Maximise}
use Rattle.net_normal.specs.declared.instance.InstArc.{InstArc}
use Rattle.net_normal.specs.declared.problem.FlowArc.{FlowArc}
use Rattle.net_normal.specs.declared.profile.Profile.{Profile}
use Rattle.net_normal.proofs.WholeNumbers.{neg-mul}
use Rattle.net_normal.proofs.ArcSums.{added, lessened, flow_on-map, flow_on-agree, price_of-map}

pub length-offsets : (p : Profile) (arcs : List InstArc) → length (offsets_of p arcs) ≡ length arcs
length-offsets p [] = refl
length-offsets p (a ∷ arcs) = ap suc (length-offsets p arcs)

-- within the capacities is within the bounds, and back
pub added-within : (p : Profile) (sense : Sense) (outside : ℕ) (arcs : List InstArc) (xs : List ℤ) → AllZip IsWithinCapacity (map (flow_arc_of p sense outside) arcs) xs → AllZip IsWithinBounds arcs (added xs (offsets_of p arcs))
added-within p sense outside [] [] h = tt
added-within p sense outside [] (x ∷ xs) h = absurd h
added-within p sense outside (a ∷ arcs) [] h = absurd h
added-within p sense outside (a ∷ arcs) (x ∷ xs) h =
    let low : (a.lower -ℤ offset_of p a) ≤ℤ x = h.0.low in
    let cap : x ≤ℤ (a.upper -ℤ offset_of p a) = h.0.cap in
    (record { lower = omega (arith, ints, low); upper = omega (arith, ints, cap) }, added-within p sense outside arcs xs h.1)

pub lessened-within : (p : Profile) (sense : Sense) (outside : ℕ) (arcs : List InstArc) (xs : List ℤ) → AllZip IsWithinBounds arcs xs → AllZip IsWithinCapacity (map (flow_arc_of p sense outside) arcs) (lessened xs (offsets_of p arcs))
lessened-within p sense outside [] [] h = tt
lessened-within p sense outside [] (x ∷ xs) h = absurd h
lessened-within p sense outside (a ∷ arcs) [] h = absurd h
lessened-within p sense outside (a ∷ arcs) (x ∷ xs) h =
    let lower : a.lower ≤ℤ x = h.0.lower in
    let upper : x ≤ℤ a.upper = h.0.upper in
    (record { low = omega (arith, ints, lower); cap = omega (arith, ints, upper) }, lessened-within p sense outside arcs xs h.1)

-- an end that is missing is at the outside node, and no other
end_is_node : (outside u : ℕ) → outside ≢ u → (end : Option ℕ) → nat_eq (unwrap_or end outside) u ≡ is_node u end
end_is_node outside u h None = ne_eqb outside u h
end_is_node outside u h (Some v) = refl

-- a node of the network sends out by these arcs what it receives less
pub made_outflow : (p : Profile) (sense : Sense) (outside u : ℕ) → outside ≢ u → (arcs : List InstArc) (xs : List ℤ) → net_outflow (map (flow_arc_of p sense outside) arcs) xs u ≡ neg_ℤ (net_inflow arcs xs u)
made_outflow p sense outside u h arcs xs =
    let out = flow_on-map (λ (a : FlowArc). nat_eq a.src u) (flow_arc_of p sense outside) arcs xs ∙ flow_on-agree (λ (a : InstArc). nat_eq (unwrap_or a.tail outside) u) (leaves u) (λ a. end_is_node outside u h a.tail) arcs xs in
    let inn = flow_on-map (λ (a : FlowArc). nat_eq a.dst u) (flow_arc_of p sense outside) arcs xs ∙ flow_on-agree (λ (a : InstArc). nat_eq (unwrap_or a.head outside) u) (enters u) (λ a. end_is_node outside u h a.head) arcs xs in
    omega (arith, ints, out, inn)

-- the costs are the coefficients, or their negations
signed-price : (sense : Sense) (arcs : List InstArc) (xs : List ℤ) → price_of (λ a. signed sense a.coefficient) arcs xs ≡ signed sense (price_of (λ a. a.coefficient) arcs xs)
signed-price Minimise arcs xs = refl
signed-price Maximise [] xs = refl
signed-price Maximise (a ∷ arcs) [] = refl
signed-price Maximise (a ∷ arcs) (x ∷ xs) = omega (arith, ints, neg-mul a.coefficient x, signed-price Maximise arcs xs)

pub made_price : (p : Profile) (sense : Sense) (outside : ℕ) (arcs : List InstArc) (xs : List ℤ) → price_of (λ (a : FlowArc). a.cost) (map (flow_arc_of p sense outside) arcs) xs ≡ signed sense (price_of (λ a. a.coefficient) arcs xs)
made_price p sense outside arcs xs = price_of-map (λ (a : FlowArc). a.cost) (flow_arc_of p sense outside) arcs xs ∙ signed-price sense arcs xs
