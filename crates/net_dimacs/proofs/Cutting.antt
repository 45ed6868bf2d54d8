-- Numbers cut off at the ends of i64 are judged as the numbers themselves.
use Rattle.std.proofs.Common.{◌≡◌, ◌≤◌, ◌<◌, ℕ, zero, suc, ◌-◌, min, Bool, true, false, cond, ◌&&◌, ◌||◌, ℤ, pos, negsuc, neg_ℤ, Some, None, Ok, Err, refl, ap, ◌∙◌, arith, length, ◌==◌, [], replicate}
use Rattle.std.specs.Prelude.{Option, Result, int_lt, int_le, nat_le, unsigned_abs, slice_index_or, slice_set}
use Rattle.std.specs.Option.{option_map}
use Rattle.std.proofs.lemmas.Bool.Decides.{nat_tests}
use Rattle.net_normal.specs.Limits.{flow_node_limit, flow_arc_limit, flow_limit, cost_limit}
use Rattle.net_dimacs.specs.declared.problem_line.LineStatement.{LineStatement}
use Rattle.net_dimacs.specs.declared.problem_line.LineStatement.TheVariants as statements
use Rattle.net_dimacs.specs.declared.problem_fault.LineFault.{LineFault}
use Rattle.net_dimacs.specs.declared.problem_fault.LineFault.TheVariants.{LineOrder, DoubleNode, Count, Bounds, TooLarge}
use Rattle.net_dimacs.specs.Numbers.{greatest_signed, cut, cut_statement}
use Rattle.net_dimacs.specs.Reading.{Sketch, place_of, new_sketch, is_past, with_node, with_node_at, bounds_fault, with_arc, with_arc_at, with_arc_or, State, Start, Open, Rejected, state_from, with_optional_statement}

-- a negative number, cut off
cut_negative : (n : ℕ) → cut (negsuc n) ≡ negsuc (min n (greatest_signed - 1))
cut_negative n = ap (λ (m : ℕ). neg_ℤ (pos m)) (let e : min (suc n) greatest_signed ≡ suc (min n (greatest_signed - 1)) = omega arith in e)

-- ---- tests against a number that is not cut off

above : (l : ℕ) → l < greatest_signed → (z : ℤ) → int_lt (pos l) (cut z) ≡ int_lt (pos l) z
above l small (pos n) = grind (arith, nat_tests)
above l small (negsuc n) = ap (int_lt (pos l)) (cut_negative n)

below : (l : ℕ) → l < greatest_signed → (z : ℤ) → int_lt (cut z) (pos l) ≡ int_lt z (pos l)
below l small (pos n) = grind (arith, nat_tests)
below l small (negsuc n) = ap (λ (x : ℤ). int_lt x (pos l)) (cut_negative n)

below_negative : (l : ℕ) → suc l < greatest_signed → (z : ℤ) → int_lt (cut z) (negsuc l) ≡ int_lt z (negsuc l)
below_negative l small (pos n) = refl
below_negative l small (negsuc n) = ap (λ (x : ℤ). int_lt x (negsuc l)) (cut_negative n) ∙ grind (arith, nat_tests)

at_least : (l : ℕ) → l < greatest_signed → (z : ℤ) → int_le (pos l) (cut z) ≡ int_le (pos l) z
at_least l small (pos n) = grind (arith, nat_tests)
at_least l small (negsuc n) = ap (int_le (pos l)) (cut_negative n)

at_most : (l : ℕ) → l < greatest_signed → (z : ℤ) → int_le (cut z) (pos l) ≡ int_le z (pos l)
at_most l small (pos n) = grind (arith, nat_tests)
at_most l small (negsuc n) = ap (λ (x : ℤ). int_le x (pos l)) (cut_negative n)

-- a number between two that are not cut off
exact : (l : ℕ) → l < greatest_signed → (z : ℤ) → int_lt (pos l) z ≡ false → int_lt z (neg_ℤ (pos l)) ≡ false → cut z ≡ z
exact l small (pos n) p q = ap pos (grind (arith, nat_tests))
exact zero small (negsuc n) p q = absurd (grind (arith, nat_tests))
exact (suc l) small (negsuc n) p q = cut_negative n ∙ ap negsuc (grind (arith, nat_tests))

exact_natural : (l : ℕ) → l < greatest_signed → (z : ℤ) → int_lt (pos l) z ≡ false → int_lt z (pos 0) ≡ false → cut z ≡ z
exact_natural l small (pos n) p q = ap pos (grind (arith, nat_tests))
exact_natural l small (negsuc n) p q = cc

exact_positive : (l : ℕ) → l < greatest_signed → (z : ℤ) → int_lt (pos l) z ≡ false → int_lt z (pos 1) ≡ false → cut z ≡ z
exact_positive l small (pos n) p q = ap pos (grind (arith, nat_tests))
exact_positive l small (negsuc n) p q = cc

exact_node : (l : ℕ) → l < greatest_signed → (z : ℤ) → int_le (pos 1) z ≡ true → int_le z (pos l) ≡ true → cut z ≡ z
exact_node l small (pos n) p q = ap pos (grind (arith, nat_tests))
exact_node l small (negsuc n) p q = cc

past : (l : ℕ) → suc l < greatest_signed → (z : ℤ) → is_past (pos (suc l)) (cut z) ≡ is_past (pos (suc l)) z
past l small z =
    ap (λ (t : Bool). t || int_lt (cut z) (negsuc l)) (above (suc l) small z) ∙ ap (λ (t : Bool). int_lt (pos (suc l)) z || t) (below_negative l small z)

neither : (s t : Bool) → (s || t) ≡ false → (s ≡ false) × (t ≡ false)
neither true t e = absurd cc
neither false t e = (refl, e)

exact_sized : (l : ℕ) → suc l < greatest_signed → (z : ℤ) → is_past (pos (suc l)) z ≡ false → cut z ≡ z
exact_sized l small z e = let p = neither (int_lt (pos (suc l)) z) (int_lt z (negsuc l)) e in exact (suc l) small z p.0 p.1

-- ---- the `p` line

abbrev pub sketch_by : Bool → Bool → Bool → Bool → ℤ → ℤ → Result Sketch LineFault
sketch_by s t u v nodes arcs =
    cond (s || t) (Err Count) (cond (u || v) (Err TooLarge) (Ok (record {
      supplies = replicate (unsigned_abs nodes) (pos 0);
      named = replicate (unsigned_abs nodes) false;
      arcs = [];
      arc_count = unsigned_abs arcs;
    })))

sketch_same : (s t u v : Bool) (nodes' nodes arcs' arcs : ℤ) → (s ≡ false → u ≡ false → nodes' ≡ nodes) → (t ≡ false → v ≡ false → arcs' ≡ arcs) → sketch_by s t u v nodes' arcs' ≡ sketch_by s t u v nodes arcs
sketch_same true t u v nodes' nodes arcs' arcs e f = refl
sketch_same false true u v nodes' nodes arcs' arcs e f = refl
sketch_same false false true v nodes' nodes arcs' arcs e f = refl
sketch_same false false false true nodes' nodes arcs' arcs e f = refl
sketch_same false false false false nodes' nodes arcs' arcs e f =
    ap (λ (z : ℤ). sketch_by false false false false z arcs') (e refl refl) ∙ ap (λ (z : ℤ). sketch_by false false false false nodes z) (f refl refl)

pub new_cut : (nodes arcs : ℤ) → new_sketch (cut nodes) (cut arcs) ≡ new_sketch nodes arcs
new_cut nodes arcs =
    let s = int_lt nodes (pos 1) in
    let t = int_lt arcs (pos 0) in
    let u = int_lt (pos flow_node_limit) nodes in
    let v = int_lt (pos flow_arc_limit) arcs in
    ap (λ (x : Bool). sketch_by x (int_lt (cut arcs) (pos 0)) (int_lt (pos flow_node_limit) (cut nodes)) (int_lt (pos flow_arc_limit) (cut arcs)) (cut nodes) (cut arcs)) (below 1 (omega arith) nodes)
    ∙ ap (λ (x : Bool). sketch_by s x (int_lt (pos flow_node_limit) (cut nodes)) (int_lt (pos flow_arc_limit) (cut arcs)) (cut nodes) (cut arcs)) (below 0 (omega arith) arcs)
    ∙ ap (λ (x : Bool). sketch_by s t x (int_lt (pos flow_arc_limit) (cut arcs)) (cut nodes) (cut arcs)) (above flow_node_limit (omega arith) nodes)
    ∙ ap (λ (x : Bool). sketch_by s t u x (cut nodes) (cut arcs)) (above flow_arc_limit (omega arith) arcs)
    ∙ sketch_same s t u v (cut nodes) nodes (cut arcs) arcs
    (λ few many. exact_positive flow_node_limit (omega arith) nodes many few)
    (λ few many. exact_natural flow_arc_limit (omega arith) arcs many few)

-- ---- nodes

abbrev place_by : Bool → Bool → ℤ → Option ℕ
place_by s t z = cond (s && t) (Some (unsigned_abs z - 1)) None

place_same : (s t : Bool) (z' z : ℤ) → (s ≡ true → t ≡ true → z' ≡ z) → place_by s t z' ≡ place_by s t z
place_same true true z' z e = ap (place_by true true) (e refl refl)
place_same true false z' z e = refl
place_same false t z' z e = refl

place_cut : (d : Sketch) (z : ℤ) → length d.supplies ≤ flow_node_limit → place_of d (cut z) ≡ place_of d z
place_cut d z few =
    let n = length d.supplies in
    let small : n < greatest_signed = omega arith in
    ap (λ (x : Bool). place_by x (int_le (cut z) (pos n)) (cut z)) (at_least 1 (omega arith) z)
    ∙ ap (λ (x : Bool). place_by (int_le (pos 1) z) x (cut z)) (at_most n small z)
    ∙ place_same (int_le (pos 1) z) (int_le z (pos n)) (cut z) z (λ s t. exact_node n small z s t)

abbrev pub node_by : Sketch → ℕ → Bool → Bool → ℤ → Result Sketch LineFault
node_by d node s t supply = cond s (Err DoubleNode) (cond t (Err TooLarge) (Ok (record d { supplies = slice_set d.supplies node supply; named = slice_set d.named node true })))

node_same : (d : Sketch) (node : ℕ) (s t : Bool) (supply' supply : ℤ) → (t ≡ false → supply' ≡ supply) → node_by d node s t supply' ≡ node_by d node s t supply
node_same d node true t supply' supply e = refl
node_same d node false true supply' supply e = refl
node_same d node false false supply' supply e = ap (node_by d node false false) (e refl)

node_at_cut : (d : Sketch) (place : Option ℕ) (supply : ℤ) → with_node_at d place (cut supply) ≡ with_node_at d place supply
node_at_cut d None supply = refl
node_at_cut d (Some node) supply =
    let marked = slice_index_or d.named node false in
    ap (λ (x : Bool). node_by d node marked x (cut supply)) (past (flow_limit - 1) (omega arith) supply)
    ∙ node_same d node marked (is_past (pos flow_limit) supply) (cut supply) supply (λ e. exact_sized (flow_limit - 1) (omega arith) supply e)

node_cut : (d : Sketch) (node supply : ℤ) → length d.supplies ≤ flow_node_limit → with_node d (cut node) (cut supply) ≡ with_node d node supply
node_cut d node supply few =
    ap (λ (x : Result Sketch LineFault). cond (length d.arcs == 0) x (Err LineOrder))
    (ap (λ (place : Option ℕ). with_node_at d place (cut supply)) (place_cut d node few) ∙ node_at_cut d (place_of d node) supply)

-- ---- arcs

abbrev pub bounds_by : Bool → Bool → Bool → Bool → Bool → Option LineFault
bounds_by s t u v w = cond (s || t || u) (Some TooLarge) (cond (v || w) (Some Bounds) None)

bounds_same : (s t u v w' w : Bool) → (s ≡ false → v ≡ false → w' ≡ w) → bounds_by s t u v w' ≡ bounds_by s t u v w
bounds_same true t u v w' w e = refl
bounds_same false true u v w' w e = refl
bounds_same false false true v w' w e = refl
bounds_same false false false true w' w e = refl
bounds_same false false false false w' w e = ap (bounds_by false false false false) (e refl refl)

pub record NoFault (s t u v : Bool) : Type 0 where
  pub low : s ≡ false
  pub cap : t ≡ false
  pub cost : u ≡ false
  pub negative : v ≡ false

pub bounds_none : (s t u v w : Bool) → bounds_by s t u v w ≡ None → NoFault s t u v × (w ≡ false)
bounds_none true t u v w e = absurd cc
bounds_none false true u v w e = absurd cc
bounds_none false false true v w e = absurd cc
bounds_none false false false true w e = absurd cc
bounds_none false false false false true e = absurd cc
bounds_none false false false false false e = (record { low = refl; cap = refl; cost = refl; negative = refl }, refl)

-- CAP against a LOW from 0 to its limit
crossed_cut : (low cap : ℤ) → int_lt (pos flow_limit) low ≡ false → int_lt low (pos 0) ≡ false → int_lt (cut cap) (cut low) ≡ int_lt cap low
crossed_cut (pos n) cap p q =
    let small : n < greatest_signed = grind (arith, nat_tests) in
    ap (int_lt (cut cap)) (exact_natural flow_limit (omega arith) (pos n) p q) ∙ below n small cap
crossed_cut (negsuc n) cap p q = cc

bounds_cut : (low cap cost : ℤ) → bounds_fault (cut low) (cut cap) (cut cost) ≡ bounds_fault low cap cost
bounds_cut low cap cost =
    let s = int_lt (pos flow_limit) low in
    let t = int_lt (pos flow_limit) cap in
    let u = is_past (pos cost_limit) cost in
    let v = int_lt low (pos 0) in
    ap (λ (x : Bool). bounds_by x (int_lt (pos flow_limit) (cut cap)) (is_past (pos cost_limit) (cut cost)) (int_lt (cut low) (pos 0)) (int_lt (cut cap) (cut low))) (above flow_limit (omega arith) low)
    ∙ ap (λ (x : Bool). bounds_by s x (is_past (pos cost_limit) (cut cost)) (int_lt (cut low) (pos 0)) (int_lt (cut cap) (cut low))) (above flow_limit (omega arith) cap)
    ∙ ap (λ (x : Bool). bounds_by s t x (int_lt (cut low) (pos 0)) (int_lt (cut cap) (cut low))) (past (cost_limit - 1) (omega arith) cost)
    ∙ ap (λ (x : Bool). bounds_by s t u x (int_lt (cut cap) (cut low))) (below 0 (omega arith) low)
    ∙ bounds_same s t u v (int_lt (cut cap) (cut low)) (int_lt cap low) (crossed_cut low cap)

exact_cap : (low cap : ℤ) → int_lt low (pos 0) ≡ false → int_lt cap low ≡ false → int_lt (pos flow_limit) cap ≡ false → cut cap ≡ cap
exact_cap (pos n) (pos m) p q r = exact_natural flow_limit (omega arith) (pos m) r (grind (arith, nat_tests))
exact_cap (pos n) (negsuc m) p q r = cc
exact_cap (negsuc n) cap p q r = cc

arc_or_same : (d : Sketch) (fault : Option LineFault) (src dst : ℕ) (low' low cap' cap cost' cost : ℤ) → (fault ≡ None → (low' ≡ low) × (cap' ≡ cap) × (cost' ≡ cost))
    → with_arc_or d fault (record { src = src; dst = dst; low = low'; cap = cap'; cost = cost' }) ≡ with_arc_or d fault (record { src = src; dst = dst; low = low; cap = cap; cost = cost })
arc_or_same d (Some fault) src dst low' low cap' cap cost' cost e = refl
arc_or_same d None src dst low' low cap' cap cost' cost e = let p = e refl in let a = p.0 in let b = p.1 in let c = p.2 in cc

arc_at_cut : (d : Sketch) (src dst : Option ℕ) (low cap cost : ℤ) → with_arc_at d src dst (cut low) (cut cap) (cut cost) ≡ with_arc_at d src dst low cap cost
arc_at_cut d None dst low cap cost = refl
arc_at_cut d (Some src) None low cap cost = refl
arc_at_cut d (Some src) (Some dst) low cap cost =
    ap (λ (f : Option LineFault). with_arc_or d f (record { src = src; dst = dst; low = cut low; cap = cut cap; cost = cut cost })) (bounds_cut low cap cost)
    ∙ arc_or_same d (bounds_fault low cap cost) src dst (cut low) low (cut cap) cap (cut cost) cost
    (λ e. let p = bounds_none (int_lt (pos flow_limit) low) (int_lt (pos flow_limit) cap) (is_past (pos cost_limit) cost) (int_lt low (pos 0)) (int_lt cap low) e in
    (exact_natural flow_limit (omega arith) low p.0.low p.0.negative, exact_cap low cap p.0.negative p.1 p.0.cap, exact_sized (cost_limit - 1) (omega arith) cost p.0.cost))

arc_cut : (d : Sketch) (src dst low cap cost : ℤ) → length d.supplies ≤ flow_node_limit → with_arc d (cut src) (cut dst) (cut low) (cut cap) (cut cost) ≡ with_arc d src dst low cap cost
arc_cut d src dst low cap cost few =
    ap (λ (x : Result Sketch LineFault). cond (nat_le d.arc_count (length d.arcs)) (Err Count) x)
    (ap (λ (p : Option ℕ). with_arc_at d p (place_of d (cut dst)) (cut low) (cut cap) (cut cost)) (place_cut d src few)
    ∙ ap (λ (p : Option ℕ). with_arc_at d (place_of d src) p (cut low) (cut cap) (cut cost)) (place_cut d dst few)
    ∙ arc_at_cut d (place_of d src) (place_of d dst) low cap cost)

-- ---- lines

-- a draft has few nodes
abbrev pub IsSmall : State → Type 0
IsSmall Start = Unit {0}
IsSmall (Open d) = length d.supplies ≤ flow_node_limit
IsSmall (Rejected r) = Unit {0}

pub said_cut : (line : ℕ) (state : State) (line_statement : Option LineStatement) → IsSmall state → with_optional_statement line state (option_map cut_statement line_statement) ≡ with_optional_statement line state line_statement
said_cut line state None few = refl
said_cut line Start (Some (statements.Problem nodes arcs)) few = ap (state_from line) (new_cut nodes arcs)
said_cut line Start (Some (statements.Node node supply)) few = refl
said_cut line Start (Some (statements.Arc src dst low cap cost)) few = refl
said_cut line Start (Some statements.Other) few = refl
said_cut line (Open d) (Some (statements.Problem nodes arcs)) few = refl
said_cut line (Open d) (Some (statements.Node node supply)) few = ap (state_from line) (node_cut d node supply few)
said_cut line (Open d) (Some (statements.Arc src dst low cap cost)) few = ap (state_from line) (arc_cut d src dst low cap cost few)
said_cut line (Open d) (Some statements.Other) few = refl
said_cut line (Rejected r) (Some statement) few = refl
