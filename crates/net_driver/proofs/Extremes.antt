-- A node whose net inflow is the greatest or the least that the bounds allow: all of its arcs are at a bound.
use Rattle.std.proofs.Common.{◌≡◌, ℕ, Bool, true, false, cond, List, [], ◌∷◌, map, ℤ, pos, ◌+ℤ◌, ◌-ℤ◌, ◌≤ℤ◌, refl, arith}
use Rattle.std.proofs.lemmas.Int.{ints}
use Rattle.std.specs.List.{AllZip}
use Rattle.net_normal.specs.Assignments.{enters, leaves, net_inflow, IsWithinBounds}
use Rattle.net_normal.specs.NormalForm.{least_inflow, most_inflow}
use Rattle.net_normal.specs.Sums.{flow_on}
use Rattle.net_normal.specs.declared.instance.InstArc.{InstArc}
use Rattle.net_normal.proofs.ArcSums.{flow_on-le, flow_on-ge, zipped-weaker}

-- the arc carries its lower bound if it leaves the node, its upper bound if it enters it
pub record IsMostAt (u : ℕ) (a : InstArc) (y : ℤ) : Type 0 where
  pub leaving : leaves u a ≡ true → y ≡ a.lower
  pub entering : enters u a ≡ true → y ≡ a.upper

-- the other way round
pub record IsLeastAt (u : ℕ) (a : InstArc) (y : ℤ) : Type 0 where
  pub leaving : leaves u a ≡ true → y ≡ a.upper
  pub entering : enters u a ≡ true → y ≡ a.lower

-- one arc, which enters (e) or leaves (l), with the sums of the others: those that the bounds allow and those of the flows
record IsStep (e l : Bool) (own other y : ℤ) (allowed carried : ℤ) : Type 0 where
  leaving : l ≡ true → y ≡ own
  entering : e ≡ true → y ≡ other
  others : allowed ≤ℤ carried

most_step : (e l : Bool) (lower upper y in_most out_least inn out : ℤ) → lower ≤ℤ y → y ≤ℤ upper → inn ≤ℤ in_most → out_least ≤ℤ out
    → ((cond e upper (pos 0) +ℤ in_most) -ℤ (cond l lower (pos 0) +ℤ out_least)) ≤ℤ ((cond e y (pos 0) +ℤ inn) -ℤ (cond l y (pos 0) +ℤ out)) → IsStep e l lower upper y (in_most -ℤ out_least) (inn -ℤ out)
most_step true true lower upper y in_most out_least inn out p q r s h = record { leaving = λ _. omega (arith, ints, p, q, r, s, h); entering = λ _. omega (arith, ints, p, q, r, s, h); others = omega (arith, ints, p, q, r, s, h) }
most_step true false lower upper y in_most out_least inn out p q r s h = record { leaving = λ k. cc; entering = λ _. omega (arith, ints, p, q, r, s, h); others = omega (arith, ints, p, q, r, s, h) }
most_step false true lower upper y in_most out_least inn out p q r s h = record { leaving = λ _. omega (arith, ints, p, q, r, s, h); entering = λ k. cc; others = omega (arith, ints, p, q, r, s, h) }
most_step false false lower upper y in_most out_least inn out p q r s h = record { leaving = λ k. cc; entering = λ k. cc; others = omega (arith, ints, p, q, r, s, h) }

least_step : (e l : Bool) (lower upper y in_least out_most inn out : ℤ) → lower ≤ℤ y → y ≤ℤ upper → in_least ≤ℤ inn → out ≤ℤ out_most
    → ((cond e y (pos 0) +ℤ inn) -ℤ (cond l y (pos 0) +ℤ out)) ≤ℤ ((cond e lower (pos 0) +ℤ in_least) -ℤ (cond l upper (pos 0) +ℤ out_most)) → IsStep e l upper lower y (inn -ℤ out) (in_least -ℤ out_most)
least_step true true lower upper y in_least out_most inn out p q r s h = record { leaving = λ _. omega (arith, ints, p, q, r, s, h); entering = λ _. omega (arith, ints, p, q, r, s, h); others = omega (arith, ints, p, q, r, s, h) }
least_step true false lower upper y in_least out_most inn out p q r s h = record { leaving = λ k. cc; entering = λ _. omega (arith, ints, p, q, r, s, h); others = omega (arith, ints, p, q, r, s, h) }
least_step false true lower upper y in_least out_most inn out p q r s h = record { leaving = λ _. omega (arith, ints, p, q, r, s, h); entering = λ k. cc; others = omega (arith, ints, p, q, r, s, h) }
least_step false false lower upper y in_least out_most inn out p q r s h = record { leaving = λ k. cc; entering = λ k. cc; others = omega (arith, ints, p, q, r, s, h) }

-- flows within the bounds are not below the lower bounds, nor above the upper ones
not_below : (arcs : List InstArc) (x : List ℤ) → AllZip IsWithinBounds arcs x → AllZip (λ (a : InstArc) y. a.lower ≤ℤ y) arcs x
not_below arcs x h = zipped-weaker IsWithinBounds (λ (a : InstArc) y. a.lower ≤ℤ y) (λ a y p. p.lower) arcs x h

not_above : (arcs : List InstArc) (x : List ℤ) → AllZip IsWithinBounds arcs x → AllZip (λ (a : InstArc) y. y ≤ℤ a.upper) arcs x
not_above arcs x h = zipped-weaker IsWithinBounds (λ (a : InstArc) y. y ≤ℤ a.upper) (λ a y p. p.upper) arcs x h

pub at_most : (u : ℕ) (arcs : List InstArc) (x : List ℤ) → AllZip IsWithinBounds arcs x → most_inflow arcs u ≤ℤ net_inflow arcs x u → AllZip (IsMostAt u) arcs x
at_most u [] [] h k = tt
at_most u [] (y ∷ x) h k = absurd h
at_most u (a ∷ arcs) [] h k = absurd h
at_most u (a ∷ arcs) (y ∷ x) h k =
    let step =
    most_step (enters u a) (leaves u a) a.lower a.upper y (flow_on (enters u) arcs (map (λ (b : InstArc). b.upper) arcs)) (flow_on (leaves u) arcs (map (λ (b : InstArc). b.lower) arcs)) (flow_on (enters u) arcs x) (flow_on (leaves u) arcs x)
    h.0.lower h.0.upper (flow_on-ge (enters u) (λ (b : InstArc). b.upper) arcs x (not_above arcs x h.1)) (flow_on-le (leaves u) (λ (b : InstArc). b.lower) arcs x (not_below arcs x h.1)) k in
    (record { leaving = step.leaving; entering = step.entering }, at_most u arcs x h.1 step.others)

pub at_least : (u : ℕ) (arcs : List InstArc) (x : List ℤ) → AllZip IsWithinBounds arcs x → net_inflow arcs x u ≤ℤ least_inflow arcs u → AllZip (IsLeastAt u) arcs x
at_least u [] [] h k = tt
at_least u [] (y ∷ x) h k = absurd h
at_least u (a ∷ arcs) [] h k = absurd h
at_least u (a ∷ arcs) (y ∷ x) h k =
    let step =
    least_step (enters u a) (leaves u a) a.lower a.upper y (flow_on (enters u) arcs (map (λ (b : InstArc). b.lower) arcs)) (flow_on (leaves u) arcs (map (λ (b : InstArc). b.upper) arcs)) (flow_on (enters u) arcs x) (flow_on (leaves u) arcs x)
    h.0.lower h.0.upper (flow_on-le (enters u) (λ (b : InstArc). b.lower) arcs x (not_below arcs x h.1)) (flow_on-ge (leaves u) (λ (b : InstArc). b.upper) arcs x (not_above arcs x h.1)) k in
    (record { leaving = step.leaving; entering = step.entering }, at_least u arcs x h.1 step.others)

-- facts for each index, on lists of one length
pub for_each : {A I : Type 0} (S : A → ℤ → Type 0) (R : I → A → ℤ → Type 0) (arcs : List A) (x : List ℤ) → AllZip S arcs x → ((i : I) → AllZip (R i) arcs x) → AllZip (λ a y. (i : I) → R i a y) arcs x
for_each S R [] [] h f = tt
for_each S R [] (y ∷ x) h f = absurd h
for_each S R (a ∷ arcs) [] h f = absurd h
for_each S R (a ∷ arcs) (y ∷ x) h f = ((λ i. (f i).0), for_each S R arcs x h.1 (λ i. (f i).1))
