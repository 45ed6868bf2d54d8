-- The definitions, computed on small networks whose problems were worked out by hand.
use Rattle.std.proofs.Common.{◌≡◌, ℕ, Some, None, List, [], ◌∷◌, map, ℤ, pos, negsuc, ◌≤ℤ◌, refl, subst, arith}
use Rattle.std.proofs.lemmas.Int.{ints}
use Rattle.net_normal.specs.Limits.{IsSized, range_limit}
use Rattle.net_normal.specs.Sums.{price_of}
use Rattle.net_normal.specs.Assignments.{net_inflow}
use Rattle.net_normal.specs.Links.{mapped_back_by}
use Rattle.net_normal.specs.NormalForm.{offsets_of, numbers_from, flow_arc_of, written_arcs, supplies_from, slack_arcs_from}
use Rattle.net_normal.specs.declared.instance.Sense.TheVariants.{Minimise}
use Rattle.net_normal.specs.declared.instance.InstArc.{InstArc}
use Rattle.net_normal.specs.declared.instance.NodeRange.{NodeRange}
use Rattle.net_normal.specs.declared.problem.FlowArc.{FlowArc}
use Rattle.net_normal.specs.declared.profile.Profile.TheVariants.{Plain, Lean}

sized : (low high : ℤ) → IsSized range_limit low → (x : ℤ) → Some low ≡ Some x → IsSized range_limit x
sized low high h x e = let same : low ≡ x = cc in subst (IsSized range_limit) same h

absent : (P : ℤ → Type 0) (x : ℤ) → None ≡ Some x → P x
absent P x e = cc

in_order : (low high : ℤ) → low ≤ℤ high → (x : ℤ) → Some low ≡ Some x → (y : ℤ) → Some high ≡ Some y → x ≤ℤ y
in_order low high ordered x e y f =
    let l : low ≡ x = cc in
    let h : high ≡ y = cc in
    subst (λ (z : ℤ). z ≤ℤ y) l (subst (λ (z : ℤ). low ≤ℤ z) h ordered)

-- the ranges `low <= net_in <= high`, `net_in >= low` and `net_in <= high`
abbrev between : (low high : ℤ) → IsSized range_limit low → IsSized range_limit high → low ≤ℤ high → NodeRange
between low high p q ordered = record {
  low = Some low;
  high = Some high;
  given = refl;
  low_fits = sized low high p;
  high_fits = sized high low q;
  ordered = in_order low high ordered;
}

abbrev at_least : (low : ℤ) → IsSized range_limit low → NodeRange
at_least low p = record { low = Some low; high = None; given = refl; low_fits = sized low low p; high_fits = absent (IsSized range_limit); ordered = λ x e. absent (λ y. x ≤ℤ y) }

abbrev at_most : (high : ℤ) → IsSized range_limit high → NodeRange
at_most high p = record { low = None; high = Some high; given = refl; low_fits = absent (IsSized range_limit); high_fits = sized high high p; ordered = absent (λ x. (y : ℤ) → Some high ≡ Some y → x ≤ℤ y) }

itself : (n : ℤ) → n ≤ℤ n
itself n = omega (arith, ints)

abbrev exactly : (n : ℤ) → IsSized range_limit n → NodeRange
exactly n p = between n n p p (itself n)

abbrev flow_arc : ℕ → ℕ → ℤ → ℤ → ℤ → FlowArc
flow_arc src dst low cap cost = record { src = src; dst = dst; low = low; cap = cap; cost = cost }

-- negative lower bound: `node A: net_out = 2; node B: net_in = 2; arc Move >= -3, <= 5, from A, to B, obj Cost 4;`
abbrev move : InstArc
move = record { lower = negsuc 2; upper = pos 5; coefficient = pos 4; tail = Some 0; head = Some 1 }

abbrev move_arcs : List InstArc
move_arcs = move ∷ []

abbrev move_nodes : List NodeRange
move_nodes = exactly (negsuc 1) (record { above = omega (arith, ints); below = omega (arith, ints) }) ∷ exactly (pos 2) (record { above = omega (arith, ints); below = omega (arith, ints) }) ∷ []

move_supplies : supplies_from Plain move_arcs 0 move_nodes ≡ pos 5 ∷ negsuc 4 ∷ []
move_supplies = refl

move_made : map (flow_arc_of Plain Minimise 2) move_arcs ≡ flow_arc 0 1 (pos 0) (pos 8) (pos 4) ∷ []
move_made = refl

move_rooms : slack_arcs_from move_arcs 2 0 move_nodes ≡ []
move_rooms = refl

move_constant : price_of (λ (arc : InstArc). arc.coefficient) move_arcs (offsets_of Plain move_arcs) ≡ negsuc 11
move_constant = refl

move_mapped_back : mapped_back_by (numbers_from Plain 1 move_arcs) (offsets_of Plain move_arcs) (pos 5 ∷ []) ≡ pos 2 ∷ []
move_mapped_back = refl

move_inflow_0 : net_inflow move_arcs (pos 2 ∷ []) 0 ≡ negsuc 1
move_inflow_0 = refl

move_inflow_1 : net_inflow move_arcs (pos 2 ∷ []) 1 ≡ pos 2
move_inflow_1 = refl

move_value : price_of (λ (arc : InstArc). arc.coefficient) move_arcs (pos 2 ∷ []) ≡ pos 8
move_value = refl

-- range and missing end: `node C: 1 <= net_in <= 4; arc Feed >= 0, <= 9, to C, obj Cost 2;`
abbrev feed : InstArc
feed = record { lower = pos 0; upper = pos 9; coefficient = pos 2; tail = None; head = Some 0 }

abbrev feed_arcs : List InstArc
feed_arcs = feed ∷ []

abbrev feed_nodes : List NodeRange
feed_nodes = between (pos 1) (pos 4) (record { above = omega (arith, ints); below = omega (arith, ints) }) (record { above = omega (arith, ints); below = omega (arith, ints) }) (omega (arith, ints)) ∷ []

feed_supplies : supplies_from Plain feed_arcs 0 feed_nodes ≡ negsuc 0 ∷ []
feed_supplies = refl

feed_made : map (flow_arc_of Plain Minimise 1) feed_arcs ≡ flow_arc 1 0 (pos 0) (pos 9) (pos 2) ∷ []
feed_made = refl

feed_rooms : slack_arcs_from feed_arcs 1 0 feed_nodes ≡ flow_arc 0 1 (pos 0) (pos 3) (pos 0) ∷ []
feed_rooms = refl

feed_constant : price_of (λ (arc : InstArc). arc.coefficient) feed_arcs (offsets_of Plain feed_arcs) ≡ pos 0
feed_constant = refl

feed_mapped_back : mapped_back_by (numbers_from Plain 1 feed_arcs) (offsets_of Plain feed_arcs) (pos 1 ∷ pos 0 ∷ []) ≡ pos 1 ∷ []
feed_mapped_back = refl

feed_inflow_0 : net_inflow feed_arcs (pos 1 ∷ []) 0 ≡ pos 1
feed_inflow_0 = refl

feed_value : price_of (λ (arc : InstArc). arc.coefficient) feed_arcs (pos 1 ∷ []) ≡ pos 2
feed_value = refl

-- reversed range: `node D: 3 >= 5 - net_out >= 1; arc Out >= 0, <= 10, from D, obj Cost 1;`
abbrev out : InstArc
out = record { lower = pos 0; upper = pos 10; coefficient = pos 1; tail = Some 0; head = None }

abbrev out_arcs : List InstArc
out_arcs = out ∷ []

abbrev out_nodes : List NodeRange
out_nodes = between (negsuc 3) (negsuc 1) (record { above = omega (arith, ints); below = omega (arith, ints) }) (record { above = omega (arith, ints); below = omega (arith, ints) }) (omega (arith, ints)) ∷ []

out_supplies : supplies_from Plain out_arcs 0 out_nodes ≡ pos 4 ∷ []
out_supplies = refl

out_made : map (flow_arc_of Plain Minimise 1) out_arcs ≡ flow_arc 0 1 (pos 0) (pos 10) (pos 1) ∷ []
out_made = refl

out_rooms : slack_arcs_from out_arcs 1 0 out_nodes ≡ flow_arc 0 1 (pos 0) (pos 2) (pos 0) ∷ []
out_rooms = refl

out_constant : price_of (λ (arc : InstArc). arc.coefficient) out_arcs (offsets_of Plain out_arcs) ≡ pos 0
out_constant = refl

out_mapped_back : mapped_back_by (numbers_from Plain 1 out_arcs) (offsets_of Plain out_arcs) (pos 2 ∷ pos 2 ∷ []) ≡ pos 2 ∷ []
out_mapped_back = refl

out_inflow_0 : net_inflow out_arcs (pos 2 ∷ []) 0 ≡ negsuc 1
out_inflow_0 = refl

out_value : price_of (λ (arc : InstArc). arc.coefficient) out_arcs (pos 2 ∷ []) ≡ pos 2
out_value = refl

-- loop: `node A; arc L >= 0, <= 5, from A, to A, obj Cost -2;`
abbrev loop : InstArc
loop = record { lower = pos 0; upper = pos 5; coefficient = negsuc 1; tail = Some 0; head = Some 0 }

abbrev loop_arcs : List InstArc
loop_arcs = loop ∷ []

abbrev loop_nodes : List NodeRange
loop_nodes = exactly (pos 0) (record { above = omega (arith, ints); below = omega (arith, ints) }) ∷ []

loop_supplies : supplies_from Plain loop_arcs 0 loop_nodes ≡ pos 0 ∷ []
loop_supplies = refl

loop_made : map (flow_arc_of Plain Minimise 1) loop_arcs ≡ flow_arc 0 0 (pos 0) (pos 5) (negsuc 1) ∷ []
loop_made = refl

loop_rooms : slack_arcs_from loop_arcs 1 0 loop_nodes ≡ []
loop_rooms = refl

loop_constant : price_of (λ (arc : InstArc). arc.coefficient) loop_arcs (offsets_of Plain loop_arcs) ≡ pos 0
loop_constant = refl

loop_mapped_back : mapped_back_by (numbers_from Plain 1 loop_arcs) (offsets_of Plain loop_arcs) (pos 5 ∷ []) ≡ pos 5 ∷ []
loop_mapped_back = refl

loop_inflow_0 : net_inflow loop_arcs (pos 5 ∷ []) 0 ≡ pos 0
loop_inflow_0 = refl

loop_value : price_of (λ (arc : InstArc). arc.coefficient) loop_arcs (pos 5 ∷ []) ≡ negsuc 9
loop_value = refl

-- one-sided range: `node A: net_in >= 3; arc X >= -4, <= 4, to A, obj Cost 1; arc Y >= -4, <= 4, to A, obj Cost 2;`
abbrev side_x : InstArc
side_x = record { lower = negsuc 3; upper = pos 4; coefficient = pos 1; tail = None; head = Some 0 }

abbrev side_y : InstArc
side_y = record { lower = negsuc 3; upper = pos 4; coefficient = pos 2; tail = None; head = Some 0 }

abbrev side_arcs : List InstArc
side_arcs = side_x ∷ side_y ∷ []

abbrev side_nodes : List NodeRange
side_nodes = at_least (pos 3) (record { above = omega (arith, ints); below = omega (arith, ints) }) ∷ []

side_supplies : supplies_from Plain side_arcs 0 side_nodes ≡ negsuc 10 ∷ []
side_supplies = refl

side_made : map (flow_arc_of Plain Minimise 1) side_arcs ≡ flow_arc 1 0 (pos 0) (pos 8) (pos 1) ∷ flow_arc 1 0 (pos 0) (pos 8) (pos 2) ∷ []
side_made = refl

side_rooms : slack_arcs_from side_arcs 1 0 side_nodes ≡ flow_arc 0 1 (pos 0) (pos 5) (pos 0) ∷ []
side_rooms = refl

side_constant : price_of (λ (arc : InstArc). arc.coefficient) side_arcs (offsets_of Plain side_arcs) ≡ negsuc 11
side_constant = refl

side_mapped_back : mapped_back_by (numbers_from Plain 1 side_arcs) (offsets_of Plain side_arcs) (pos 8 ∷ pos 3 ∷ pos 0 ∷ []) ≡ pos 4 ∷ negsuc 0 ∷ []
side_mapped_back = refl

side_inflow_0 : net_inflow side_arcs (pos 4 ∷ negsuc 0 ∷ []) 0 ≡ pos 3
side_inflow_0 = refl

side_value : price_of (λ (arc : InstArc). arc.coefficient) side_arcs (pos 4 ∷ negsuc 0 ∷ []) ≡ pos 2
side_value = refl

-- one-sided range past its room: `net_in >= 20`
abbrev past_nodes : List NodeRange
past_nodes = at_least (pos 20) (record { above = omega (arith, ints); below = omega (arith, ints) }) ∷ []

past_supplies : supplies_from Plain side_arcs 0 past_nodes ≡ negsuc 27 ∷ []
past_supplies = refl

past_rooms : slack_arcs_from side_arcs 1 0 past_nodes ≡ flow_arc 0 1 (pos 0) (pos 0) (pos 0) ∷ []
past_rooms = refl

-- one-sided range the other way: `3 >= net_in`
abbrev high_nodes : List NodeRange
high_nodes = at_most (pos 3) (record { above = omega (arith, ints); below = omega (arith, ints) }) ∷ []

high_supplies : supplies_from Plain side_arcs 0 high_nodes ≡ pos 0 ∷ []
high_supplies = refl

high_rooms : slack_arcs_from side_arcs 1 0 high_nodes ≡ flow_arc 0 1 (pos 0) (pos 11) (pos 0) ∷ []
high_rooms = refl

-- the lean form of a fixed arc beside a free one: `node A: net_out = 7; node B: net_in = 7; arc P >= 2, <= 2, from A, to B, obj Cost 5;
-- arc Q >= 1, <= 9, from A, to B, obj Cost 3;`
abbrev fixed_p : InstArc
fixed_p = record { lower = pos 2; upper = pos 2; coefficient = pos 5; tail = Some 0; head = Some 1 }

abbrev free_q : InstArc
free_q = record { lower = pos 1; upper = pos 9; coefficient = pos 3; tail = Some 0; head = Some 1 }

abbrev lean_arcs : List InstArc
lean_arcs = fixed_p ∷ free_q ∷ []

abbrev lean_nodes : List NodeRange
lean_nodes = exactly (negsuc 6) (record { above = omega (arith, ints); below = omega (arith, ints) }) ∷ exactly (pos 7) (record { above = omega (arith, ints); below = omega (arith, ints) }) ∷ []

lean_supplies : supplies_from Lean lean_arcs 0 lean_nodes ≡ pos 4 ∷ negsuc 3 ∷ []
lean_supplies = refl

lean_written : written_arcs Lean Minimise 2 lean_arcs ≡ flow_arc 0 1 (pos 0) (pos 8) (pos 3) ∷ []
lean_written = refl

lean_numbers : numbers_from Lean 1 lean_arcs ≡ 0 ∷ 1 ∷ []
lean_numbers = refl

lean_constant : price_of (λ (arc : InstArc). arc.coefficient) lean_arcs (offsets_of Lean lean_arcs) ≡ pos 13
lean_constant = refl

lean_mapped_back : mapped_back_by (numbers_from Lean 1 lean_arcs) (offsets_of Lean lean_arcs) (pos 4 ∷ []) ≡ pos 2 ∷ pos 5 ∷ []
lean_mapped_back = refl

-- and the normal form of the same
plain_supplies : supplies_from Plain lean_arcs 0 lean_nodes ≡ pos 7 ∷ negsuc 6 ∷ []
plain_supplies = refl

plain_written : written_arcs Plain Minimise 2 lean_arcs ≡ flow_arc 0 1 (pos 2) (pos 2) (pos 5) ∷ flow_arc 0 1 (pos 1) (pos 9) (pos 3) ∷ []
plain_written = refl

plain_numbers : numbers_from Plain 1 lean_arcs ≡ 1 ∷ 2 ∷ []
plain_numbers = refl

plain_constant : price_of (λ (arc : InstArc). arc.coefficient) lean_arcs (offsets_of Plain lean_arcs) ≡ pos 0
plain_constant = refl
