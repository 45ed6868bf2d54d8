-- Sums over the nodes of a set and over the arcs across it: the sum so far, with that of what is to come, is the whole.
use Rattle.std.proofs.Common.{◌≡◌, ℕ, suc, ◌+◌, ◌*◌, ◌^◌, ◌<◌, ◌≤◌, Bool, true, false, cond, List, ◌∷◌, length, map, get_or, drop, ℤ, pos, ◌+ℤ◌, ◌-ℤ◌, sym, ◌∙◌, ap, subst, arith}
use Rattle.std.proofs.lemmas.Int.{ints}
use Rattle.net_normal.specs.Limits.{IsSized, IsFlowArcOf, flow_limit}
use Rattle.net_normal.specs.Sums.{flow_on}
use Rattle.net_normal.specs.declared.problem.FlowArc.{FlowArc}
use Rattle.net_check.specs.Certificates.{goes_out, comes_in, supply_in}
use Rattle.net_check.proofs.Sums.{split_at, smaller, sized-add}

pub record HasSupplied (supplies : List ℤ) (flags : List Bool) (i : ℕ) (total : ℤ) : Type 0 where
  pub whole : total +ℤ supply_in (drop i supplies) (drop i flags) ≡ supply_in supplies flags
  pub size : IsSized (10 ^ 18 * i) total

next_size : (i : ℕ) → 10 ^ 18 * i + 10 ^ 18 ≡ 10 ^ 18 * suc i
next_size i = omega arith

chosen-sized : (n : ℕ) (b : Bool) (x : ℤ) → IsSized n x → IsSized n (cond b x (pos 0))
chosen-sized n true x h = h
chosen-sized n false x h = record { above = omega (arith, ints); below = omega (arith, ints) }

pub supplied-next : (supplies : List ℤ) (flags : List Bool) (i : ℕ) (total next : ℤ) → i < length supplies → i < length flags → IsSized flow_limit (get_or supplies i (pos 0)) → HasSupplied supplies flags i total → next ≡ total +ℤ cond (get_or flags i false) (get_or supplies i (pos 0)) (pos 0) → HasSupplied supplies flags (i + 1) next
supplied-next supplies flags i total next inside inside' small h adds =
    let one : suc i ≡ i + 1 = omega arith in
    let x : ℤ = cond (get_or flags i false) (get_or supplies i (pos 0)) (pos 0) in
    let here : supply_in (drop i supplies) (drop i flags) ≡ x +ℤ supply_in (drop (suc i) supplies) (drop (suc i) flags)
    = ap (λ (zs : List ℤ). supply_in zs (drop i flags)) (split_at supplies i (pos 0) inside) ∙ ap (λ (bs : List Bool). supply_in (get_or supplies i (pos 0) ∷ drop (suc i) supplies) bs) (split_at flags i false inside') in
    subst (λ (n : ℕ). HasSupplied supplies flags n next) one
    (record {
      whole = omega (arith, ints, h.whole, here, adds);
      size = subst (λ (n : ℕ). IsSized n next) (next_size i) (subst (IsSized (10 ^ 18 * i + 10 ^ 18)) (sym adds) (sized-add (10 ^ 18 * i) (10 ^ 18) total x h.size (chosen-sized (10 ^ 18) (get_or flags i false) (get_or supplies i (pos 0)) small)));
    })

-- one number of each arc that goes out, less another of each that comes in
abbrev pub out_less_in : (FlowArc → ℤ) → (FlowArc → ℤ) → List FlowArc → List Bool → ℤ
out_less_in out into arcs flags = flow_on (goes_out flags) arcs (map out arcs) -ℤ flow_on (comes_in flags) arcs (map into arcs)

pub record HasCrossed (out into : FlowArc → ℤ) (arcs : List FlowArc) (flags : List Bool) (i : ℕ) (total : ℤ) : Type 0 where
  pub whole : total +ℤ out_less_in out into (drop i arcs) flags ≡ out_less_in out into arcs flags
  pub size : IsSized (10 ^ 18 * i) total

pub crossed-next : (out into : FlowArc → ℤ) (arcs : List FlowArc) (flags : List Bool) (i : ℕ) (d : FlowArc) (total x next : ℤ) → i < length arcs → HasCrossed out into arcs flags i total
    → x ≡ cond (goes_out flags (get_or arcs i d)) (out (get_or arcs i d)) (pos 0) -ℤ cond (comes_in flags (get_or arcs i d)) (into (get_or arcs i d)) (pos 0) → IsSized flow_limit x → next ≡ total +ℤ x → HasCrossed out into arcs flags (i + 1) next
crossed-next out into arcs flags i d total x next inside h is small adds =
    let one : suc i ≡ i + 1 = omega arith in
    let here : out_less_in out into (drop i arcs) flags ≡ out_less_in out into (get_or arcs i d ∷ drop (suc i) arcs) flags = ap (λ (bs : List FlowArc). out_less_in out into bs flags) (split_at arcs i d inside) in
    subst (λ (n : ℕ). HasCrossed out into arcs flags n next) one
    (record {
      whole = omega (arith, ints, h.whole, here, is, adds);
      size = subst (λ (n : ℕ). IsSized n next) (next_size i) (subst (IsSized (10 ^ 18 * i + 10 ^ 18)) (sym adds) (sized-add (10 ^ 18 * i) (10 ^ 18) total x h.size small));
    })

pub total-small : (i : ℕ) (total : ℤ) → i ≤ 200000 → IsSized (10 ^ 18 * i) total → IsSized (10 ^ 36) total
total-small i total few h = smaller (10 ^ 18 * i) (10 ^ 36) total (omega arith) h

pub low-sized : (nodes : ℕ) (arc : FlowArc) → IsFlowArcOf nodes arc → IsSized flow_limit arc.low
low-sized nodes arc h = record { above = omega (arith, ints, h.low); below = omega (arith, ints, h.room, h.cap) }

pub cap-sized : (nodes : ℕ) (arc : FlowArc) → IsFlowArcOf nodes arc → IsSized flow_limit arc.cap
cap-sized nodes arc h = record { above = omega (arith, ints, h.low, h.room); below = omega (arith, ints, h.cap) }
