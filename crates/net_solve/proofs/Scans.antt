-- What a scan of a node's row shows of the arcs.
use Rattle.std.proofs.Common.{◌≡◌, ◌⊎◌, ℕ, ◌+◌, ◌^◌, ◌<◌, ◌≤◌, Bool, true, false, List, get_or, inl, inr, ℤ, pos, ◌+ℤ◌, ◌-ℤ◌, ◌*ℤ◌, ◌≤ℤ◌, ◌<ℤ◌, neg_ℤ, vec_len, FitsSigned, to_z, of_z, w64, refl, sym, ◌∙◌, ap, subst, arith}
use Rattle.std.proofs.lemmas.Int.{ints}
use Rattle.std.proofs.lemmas.Bool.{cases_lt}
use lib.Signed.{le_z}
use Rattle.net_normal.specs.Limits.{IsSized, IsFlowArcOf}
use Rattle.net_normal.specs.declared.problem.FlowArc.{FlowArc}
use Rattle.net_normal.specs.declared.problem.Problem.{Problem}
use Rattle.net_solve.specs.Pseudoflows.{no_arc, arc_at}
use Rattle.net_solve.specs.declared.rows.Entry.{Entry}
use Rattle.net_solve.specs.Runs.{State, IsLeastOut, factor, reduced_along, tail_of, residual_of}
use Rattle.net_solve.specs.Rows.{entry_of, entry_at, IsEntry, IsListed, AreRows, IsScanned}
use Rattle.net_solve.specs.Machines.{IsDeep}
use Rattle.net_solve.proofs.Reducing.{scaled-sized, reduced-value}

entry-cost : (problem : Problem) (i : ℕ) (forwards : Bool) → i < vec_len problem.arcs → IsSized (2 ^ 55) (entry_of problem i forwards).cost
entry-cost problem i true l = scaled-sized (vec_len problem.supplies) (arc_at problem i).cost problem.few_nodes (problem.arcs_fit i no_arc (omega (arith, l, problem.arcs.ok.0))).cost
entry-cost problem i false l = let h = scaled-sized (vec_len problem.supplies) (arc_at problem i).cost problem.few_nodes (problem.arcs_fit i no_arc (omega (arith, l, problem.arcs.ok.0))).cost in record { above = omega (arith, ints, h.below); below = omega (arith, ints, h.above) }

entry-head : (problem : Problem) (i : ℕ) (forwards : Bool) → i < vec_len problem.arcs → (entry_of problem i forwards).head < vec_len problem.supplies
entry-head problem i true l = (problem.arcs_fit i no_arc (omega (arith, l, problem.arcs.ok.0))).dst
entry-head problem i false l = (problem.arcs_fit i no_arc (omega (arith, l, problem.arcs.ok.0))).src

pub cost-sized : (problem : Problem) (e : Entry) → IsEntry problem e → IsSized (2 ^ 55) e.cost
cost-sized problem e h = subst (λ (x : Entry). IsSized (2 ^ 55) x.cost) (sym h.is) (entry-cost problem e.index e.forwards h.inside)

pub head-inside : (problem : Problem) (e : Entry) → IsEntry problem e → e.head < vec_len problem.supplies
head-inside problem e h = subst (λ (x : Entry). x.head < vec_len problem.supplies) (sym h.is) (entry-head problem e.index e.forwards h.inside)

order-of : (x y : ℤ) → le_z x y ≡ true → x ≤ℤ y
order-of x y h = grind (arith, ints)

-- of one entry, as the code has it
pub scanned-kept : (cost p q least flow bound : ℤ) → IsSized (2 ^ 55) cost → IsDeep p → IsDeep q → FitsSigned w64 least → le_z (to_z w64 (of_z w64 least)) (to_z w64 (of_z w64 (to_z w64 (of_z w64 (to_z w64 (of_z w64 cost) +ℤ to_z w64 (of_z w64 p))) -ℤ to_z w64 (of_z w64 q)))) ≡ true
    → (flow ≡ bound) ⊎ (to_z w64 (of_z w64 least) ≤ℤ ((cost +ℤ p) -ℤ q))
scanned-kept cost p q least flow bound h k l fits t =
    let value = reduced-value cost cost p q refl h k l in
    inr (subst (λ (x : ℤ). to_z w64 (of_z w64 least) ≤ℤ x) value (order-of _ _ t))

pub scanned-new : (cost p q flow bound : ℤ) → IsSized (2 ^ 55) cost → IsDeep p → IsDeep q → (flow ≡ bound) ⊎ (to_z w64 (of_z w64 (to_z w64 (of_z w64 (to_z w64 (of_z w64 cost) +ℤ to_z w64 (of_z w64 p))) -ℤ to_z w64 (of_z w64 q))) ≤ℤ ((cost +ℤ p) -ℤ q))
scanned-new cost p q flow bound h k l = inr (let value = reduced-value cost cost p q refl h k l in omega (arith, ints, value))

pub scanned-lower : (flows potentials : List ℤ) (potential least lower : ℤ) (e : Entry) → lower ≤ℤ least → IsScanned flows potentials potential least e → IsScanned flows potentials potential lower e
scanned-lower flows potentials potential least lower e l (inl full) = inl full
scanned-lower flows potentials potential least lower e l (inr above) = inr (omega (arith, ints, l, above))

pub scanned-here : (flows potentials : List ℤ) (flow own head potential : ℤ) (e : Entry) {lower new : ℤ} → flow ≡ get_or flows e.index (pos 0) → own ≡ potential → head ≡ get_or potentials e.head (pos 0) → new ≡ lower → (flow ≡ e.bound) ⊎ (lower ≤ℤ ((e.cost +ℤ own) -ℤ head)) → IsScanned flows potentials potential new e
scanned-here flows potentials flow own head potential e a b c d (inl full) = inl (sym a ∙ full)
scanned-here flows potentials flow own head potential e a b c d (inr above) = inr (omega (arith, ints, a, b, c, d, above))

-- one more place of a range
pub scanned-more : (P : ℕ → Type 0) (first i : ℕ) → ((p : ℕ) → first ≤ p → p < i → P p) → P i → (p : ℕ) → first ≤ p → p < i + 1 → P p
scanned-more P first i h here p l m = elim (cases_lt p i) as (λ _. P p) [
  | inl n ↦ h p l n
  | inr n ↦ let same : i ≡ p = omega (arith, m, n) in subst P same here
]

-- from the entry to its arc
least-one : (problem : Problem) (state : State) (v i : ℕ) (forwards : Bool) (least : ℤ) → tail_of (arc_at problem i) forwards ≡ v → pos 0 <ℤ residual_of (arc_at problem i) (get_or state.flows i (pos 0)) forwards
    → IsScanned state.flows state.potentials (get_or state.potentials v (pos 0)) least (entry_of problem i forwards) → least ≤ℤ reduced_along (factor problem) state.potentials (arc_at problem i) forwards
least-one problem state v i true least tail room (inl full) = absurd (omega (arith, ints, room, full))
least-one problem state v i true least tail room (inr above) = let same : get_or state.potentials (arc_at problem i).src (pos 0) ≡ get_or state.potentials v (pos 0) = ap (λ (u : ℕ). get_or state.potentials u (pos 0)) tail in omega (arith, ints, above, same)
least-one problem state v i false least tail room (inl full) = absurd (omega (arith, ints, room, full))
least-one problem state v i false least tail room (inr above) = let same : get_or state.potentials (arc_at problem i).dst (pos 0) ≡ get_or state.potentials v (pos 0) = ap (λ (u : ℕ). get_or state.potentials u (pos 0)) tail in omega (arith, ints, above, same)

pub least-out : (problem : Problem) (state : State) (starts : List ℕ) (entries : List Entry) (v first last : ℕ) (least : ℤ) → AreRows problem starts entries → first ≡ get_or starts v 0 → last ≡ get_or starts (v + 1) 0
    → ((p : ℕ) → first ≤ p → p < last → IsScanned state.flows state.potentials (get_or state.potentials v (pos 0)) least (entry_at entries p)) → IsLeastOut problem state v least
least-out problem state starts entries v first last least rows from to scanned = λ i forwards l tail room.
    let listed = rows.listed i forwards l in
    let low : first ≤ listed.place = subst (λ (x : ℕ). x ≤ listed.place) (ap (λ (u : ℕ). get_or starts u 0) tail ∙ sym from) listed.first in
    let high : listed.place < last = subst (λ (x : ℕ). listed.place < x) (ap (λ (u : ℕ). get_or starts (u + 1) 0) tail ∙ sym to) listed.last in
    least-one problem state v i forwards least tail room (subst (IsScanned state.flows state.potentials (get_or state.potentials v (pos 0)) least) listed.is (scanned listed.place low high))

-- entries, as the code makes them
pub entry-equal : (h h' i : ℕ) (forwards : Bool) (c c' b b' : ℤ) → h ≡ h' → c ≡ c' → b ≡ b' → let e : Entry = record { head = h; index = i; forwards = forwards; cost = c; bound = b } in let f : Entry = record { head = h'; index = i; forwards = forwards; cost = c'; bound = b' } in e ≡ f
entry-equal h h' i forwards c c' b b' p q r = cc

pub product-fits : (n : ℕ) (cost : ℤ) {z : ℤ} → z ≡ cost *ℤ pos (n + 1) → IsSized (2 ^ 55) (cost *ℤ pos (n + 1)) → FitsSigned w64 z
product-fits n cost e h = omega (arith, ints, e, h.above, h.below)

pub product-plain : (z x : ℤ) → z ≡ x → IsSized (2 ^ 55) x → to_z w64 (of_z w64 z) ≡ x
product-plain z x e h = omega (arith, ints, e, h.above, h.below)

pub product-neg : (z x : ℤ) → z ≡ x → IsSized (2 ^ 55) x → to_z w64 (of_z w64 (pos 0 -ℤ to_z w64 (of_z w64 z))) ≡ neg_ℤ x
product-neg z x e h = omega (arith, ints, e, h.above, h.below)

pub product-neg_fits : (z x : ℤ) → z ≡ x → IsSized (2 ^ 55) x → FitsSigned w64 (pos 0 -ℤ to_z w64 (of_z w64 z))
product-neg_fits z x e h = omega (arith, ints, e, h.above, h.below)

pub bound-plain : (nodes : ℕ) (arc : FlowArc) → IsFlowArcOf nodes arc → (to_z w64 (of_z w64 arc.low) ≡ arc.low) × (to_z w64 (of_z w64 arc.cap) ≡ arc.cap)
bound-plain nodes arc h = (omega (arith, ints, h.low, h.room, h.cap), omega (arith, ints, h.low, h.room, h.cap))

-- both ways
pub both-listed : (problem : Problem) (starts : List ℕ) (entries : List Entry) → ((i : ℕ) → i < vec_len problem.arcs → IsListed problem starts entries i true) → ((i : ℕ) → i < vec_len problem.arcs → IsListed problem starts entries i false) → (i : ℕ) (forwards : Bool) → i < vec_len problem.arcs → IsListed problem starts entries i forwards
both-listed problem starts entries ahead back i true l = ahead i l
both-listed problem starts entries ahead back i false l = back i l
