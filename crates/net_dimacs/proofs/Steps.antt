-- What one line more says of a draft that takes it.
use Rattle.std.proofs.Common.{◌≡◌, ◌≢◌, ◌≤◌, ◌<◌, ℕ, ◌+◌, ◌-◌, ◌==◌, Bool, true, false, cond, ◌&&◌, List, [], ◌∷◌, ◌++◌, ℤ, pos, negsuc, Some, None, Ok, Err, refl, sym, ap, ◌∙◌, length, replicate, get_or, set, arith, inl, inr}
use Rattle.std.specs.Prelude.{Option, ◌⊎◌, int_lt, int_le, unsigned_abs, slice_index_or, slice_set, nat_le}
use Rattle.std.proofs.lemmas.Bool.Decides.{nat_tests}
use Rattle.std.proofs.lemmas.List.{nil_from_length, get_or-set_same, get_or-set_other}
use Rattle.std.proofs.lemmas.Bool.{cases_Bool, eqb-true}
use Rattle.net_normal.specs.Limits.{flow_node_limit, flow_arc_limit, flow_limit}
use Rattle.net_normal.specs.declared.problem.FlowArc.{FlowArc}
use Rattle.net_dimacs.specs.declared.problem_fault.LineFault.{LineFault}
use Rattle.net_dimacs.specs.declared.problem_fault.LineFault.TheVariants.{LineOrder, DoubleNode, Count, TooLarge}
use Rattle.net_dimacs.specs.Reading.{Sketch, place_of, new_sketch, is_past, with_node, with_node_at, bounds_fault, with_arc, with_arc_at, with_arc_or}
use Rattle.net_dimacs.proofs.Cutting.{sketch_by}

-- ---- a draft with a node more, with an arc more, and the first

abbrev pub marked : Sketch → ℕ → ℤ → Sketch
marked d v z = record d { supplies = set d.supplies v z; named = set d.named v true }

abbrev pub with_one : Sketch → FlowArc → Sketch
with_one d arc = record d { arcs = d.arcs ++ arc ∷ [] }

abbrev pub first_sketch : ℕ → ℕ → Sketch
first_sketch n m = record { supplies = replicate n (pos 0); named = replicate n false; arcs = []; arc_count = m }

pub set_supply : (supplies : List ℤ) (v w : ℕ) (z : ℤ) → v < length supplies → get_or (set supplies v z) w (pos 0) ≡ cond (v == w) z (get_or supplies w (pos 0))
set_supply supplies v w z h =
    elim (cases_Bool (v == w)) [
      | inl e ↦ ap (λ (k : ℕ). get_or (set supplies v z) k (pos 0)) (sym (eqb-true v w e)) ∙ get_or-set_same supplies v z (pos 0) h ∙ ap (λ (t : Bool). cond t z (get_or supplies w (pos 0))) (sym e)
      | inr e ↦ let other : w ≢ v = grind (arith, nat_tests) in get_or-set_other supplies v w z (pos 0) other ∙ ap (λ (t : Bool). cond t z (get_or supplies w (pos 0))) (sym e)
    ]

chosen : {A : Type 0} (t : Bool) (x y z : A) → cond t x y ≡ z → ((t ≡ true) × (x ≡ z)) ⊎ ((t ≡ false) × (y ≡ z))
chosen true x y z e = inl (refl, e)
chosen false x y z e = inr (refl, e)

-- ---- a node's place

place_by : (s t : Bool) (n v : ℕ) → cond (s && t) (Some n) None ≡ Some v → (s ≡ true) × (t ≡ true) × (n ≡ v)
place_by true true n v e = (refl, refl, cc)
place_by true false n v e = absurd cc
place_by false t n v e = absurd cc

pub place_inverse : (d : Sketch) (z : ℤ) (v : ℕ) → place_of d z ≡ Some v → (z ≡ pos (v + 1)) × (v < length d.supplies)
place_inverse d (pos n) v e =
    let p = place_by (int_le (pos 1) (pos n)) (int_le (pos n) (pos (length d.supplies))) (n - 1) v e in
    let low : 1 ≤ n = grind (arith, nat_tests, p.0) in
    let high : n ≤ length d.supplies = grind (arith, nat_tests, p.1) in
    (ap pos (omega (arith, p.2)), omega (arith, p.2))
place_inverse d (negsuc n) v e = absurd cc

-- ---- an `n` line

pub record NodeStep (d : Sketch) (node supply : ℤ) (d' : Sketch) : Type 0 where
  pub place : ℕ
  pub node_is : node ≡ pos (place + 1)
  pub within : place < length d.supplies
  pub no_arcs : d.arcs ≡ []
  pub fresh : slice_index_or d.named place false ≡ false
  pub result : record d { supplies = slice_set d.supplies place supply; named = slice_set d.named place true } ≡ d'

node_at_by : (s t : Bool) (d d' : Sketch) → cond s (Err DoubleNode) (cond t (Err TooLarge) (Ok d)) ≡ Ok d' → (s ≡ false) × (d ≡ d')
node_at_by true t d d' e = absurd cc
node_at_by false true d d' e = absurd cc
node_at_by false false d d' e = (refl, cc)

node_from_place : (d : Sketch) (node supply : ℤ) (d' : Sketch) (place : Option ℕ) → place_of d node ≡ place → d.arcs ≡ [] → with_node_at d place supply ≡ Ok d' → NodeStep d node supply d'
node_from_place d node supply d' None p none e = absurd cc
node_from_place d node supply d' (Some v) p none e =
    let at = place_inverse d node v p in
    let kept = node_at_by (slice_index_or d.named v false) (is_past (pos flow_limit) supply) (record d { supplies = slice_set d.supplies v supply; named = slice_set d.named v true }) d' e in
    record { place = v; node_is = at.0; within = at.1; no_arcs = none; fresh = kept.0; result = kept.1 }

pub node_step : (d : Sketch) (node supply : ℤ) (d' : Sketch) → with_node d node supply ≡ Ok d' → NodeStep d node supply d'
node_step d node supply d' e =
    elim (chosen (length d.arcs == 0) (with_node_at d (place_of d node) supply) (Err LineOrder) (Ok d') e) [
      | inl p ↦ node_from_place d node supply d' (place_of d node) refl (nil_from_length d.arcs (eqb-true (length d.arcs) 0 p.0)) p.1
      | inr p ↦ absurd (let h = p.1 in cc)
    ]

-- ---- an `a` line

pub record ArcStep (d : Sketch) (src dst low cap cost : ℤ) (d' : Sketch) : Type 0 where
  pub arc : FlowArc
  pub src_is : src ≡ pos (arc.src + 1)
  pub dst_is : dst ≡ pos (arc.dst + 1)
  pub low_is : low ≡ arc.low
  pub cap_is : cap ≡ arc.cap
  pub cost_is : cost ≡ arc.cost
  pub room : length d.arcs < d.arc_count
  pub result : record d { arcs = d.arcs ++ arc ∷ [] } ≡ d'

arc_from_places : (d : Sketch) (src dst low cap cost : ℤ) (d' : Sketch) (p q : Option ℕ) (fault : Option LineFault) → place_of d src ≡ p → place_of d dst ≡ q → bounds_fault low cap cost ≡ fault → length d.arcs < d.arc_count
    → with_arc_at d p q low cap cost ≡ Ok d' → ArcStep d src dst low cap cost d'
arc_from_places d src dst low cap cost d' None q fault e1 e2 e3 room e = absurd cc
arc_from_places d src dst low cap cost d' (Some s) None fault e1 e2 e3 room e = absurd cc
arc_from_places d src dst low cap cost d' (Some s) (Some t) (Some fault) e1 e2 e3 room e =
    let arc : FlowArc = record { src = s; dst = t; low = low; cap = cap; cost = cost } in
    let h : with_arc_or d (Some fault) arc ≡ Ok d' = ap (λ (f : Option LineFault). with_arc_or d f arc) (sym e3) ∙ e in absurd cc
arc_from_places d src dst low cap cost d' (Some s) (Some t) None e1 e2 e3 room e =
    let arc : FlowArc = record { src = s; dst = t; low = low; cap = cap; cost = cost } in
    let h : with_arc_or d None arc ≡ Ok d' = ap (λ (f : Option LineFault). with_arc_or d f arc) (sym e3) ∙ e in
    record {
      arc = arc;
      src_is = (place_inverse d src s e1).0;
      dst_is = (place_inverse d dst t e2).0;
      low_is = refl;
      cap_is = refl;
      cost_is = refl;
      room = room;
      result = cc;
    }

pub arc_step : (d : Sketch) (src dst low cap cost : ℤ) (d' : Sketch) → with_arc d src dst low cap cost ≡ Ok d' → ArcStep d src dst low cap cost d'
arc_step d src dst low cap cost d' e =
    elim (chosen (nat_le d.arc_count (length d.arcs)) (Err Count) (with_arc_at d (place_of d src) (place_of d dst) low cap cost) (Ok d') e) [
      | inl p ↦ absurd (let h = p.1 in cc)
      | inr p ↦ arc_from_places d src dst low cap cost d' (place_of d src) (place_of d dst) (bounds_fault low cap cost) refl refl refl (grind (arith, nat_tests, p.0)) p.1
    ]

-- ---- the `p` line

pub record NewStep (nodes arcs : ℤ) (d' : Sketch) : Type 0 where
  pub nodes_is : nodes ≡ pos (unsigned_abs nodes)
  pub arcs_is : arcs ≡ pos (unsigned_abs arcs)
  pub result : (record { supplies = replicate (unsigned_abs nodes) (pos 0); named = replicate (unsigned_abs nodes) false; arcs = []; arc_count = unsigned_abs arcs }) ≡ d'

new_by : (s t u v : Bool) (nodes arcs : ℤ) (d' : Sketch) → sketch_by s t u v nodes arcs ≡ Ok d'
    → (s ≡ false) × (t ≡ false) × (record { supplies = replicate (unsigned_abs nodes) (pos 0); named = replicate (unsigned_abs nodes) false; arcs = []; arc_count = unsigned_abs arcs } ≡ d')
new_by true t u v nodes arcs d' e = absurd cc
new_by false true u v nodes arcs d' e = absurd cc
new_by false false true v nodes arcs d' e = absurd cc
new_by false false false true nodes arcs d' e = absurd cc
new_by false false false false nodes arcs d' e = (refl, refl, cc)

not_negative : (z : ℤ) → int_lt z (pos 0) ≡ false → z ≡ pos (unsigned_abs z)
not_negative (pos n) e = refl
not_negative (negsuc n) e = absurd cc

positive : (z : ℤ) → int_lt z (pos 1) ≡ false → z ≡ pos (unsigned_abs z)
positive (pos n) e = refl
positive (negsuc n) e = absurd cc

pub new_step : (nodes arcs : ℤ) (d' : Sketch) → new_sketch nodes arcs ≡ Ok d' → NewStep nodes arcs d'
new_step nodes arcs d' e =
    let p = new_by (int_lt nodes (pos 1)) (int_lt arcs (pos 0)) (int_lt (pos flow_node_limit) nodes) (int_lt (pos flow_arc_limit) arcs) nodes arcs d' e in
    record { nodes_is = positive nodes p.0; arcs_is = not_negative arcs p.1; result = p.2 }
