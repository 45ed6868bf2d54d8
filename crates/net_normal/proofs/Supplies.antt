-- The supplies of a normal form, node by node, and their sum.
use Rattle.std.proofs.Common.{◌≡◌, ℕ, zero, suc, ◌+◌, ◌<◌, Some, List, [], ◌∷◌, ◌++◌, length, ℤ, pos, nat_eq, refl, ap, subst, arith}
use Rattle.std.proofs.lemmas.Int.{ints}
use Rattle.std.specs.List.{AllByRecursion, slice_get}
use Rattle.net_normal.specs.Sums.{flow_on, sum_of}
use Rattle.net_normal.specs.Flows.{net_outflow}
use Rattle.net_normal.specs.NormalForm.{supply_of, supplies_from}
use Rattle.net_normal.specs.declared.instance.InstArc.{InstArc}
use Rattle.net_normal.specs.declared.instance.NodeRange.{NodeRange}
use Rattle.net_normal.specs.declared.problem.FlowArc.{FlowArc}
use Rattle.net_normal.specs.declared.profile.Profile.{Profile}
use Rattle.net_normal.proofs.NodeRuns.{EachNode, sum_over, sum_over-sub, sum_over-ends}

pub length-supplies_from : (p : Profile) (arcs : List InstArc) (v : ℕ) (ranges : List NodeRange) → length (supplies_from p arcs v ranges) ≡ length ranges
length-supplies_from p arcs v [] = refl
length-supplies_from p arcs v (r ∷ ranges) = ap suc (length-supplies_from p arcs (suc v) ranges)

-- a fact about each supply is one about each node, and one about what comes after them
pub each_supply : (p : Profile) (arcs : List InstArc) (P : ℕ → ℤ → Type 0) (v : ℕ) (ranges : List NodeRange) (after : List ℤ) → ((u : ℕ) (s : ℤ) → slice_get (supplies_from p arcs v ranges ++ after) u ≡ Some s → P (v + u) s) → EachNode (λ u r. P u (supply_of p arcs u r)) v ranges
each_supply p arcs P v [] after f = tt
each_supply p arcs P v (r ∷ ranges) after f =
    let here : v + 0 ≡ v = omega arith in (
      subst (λ (w : ℕ). P w (supply_of p arcs v r)) here (f 0 (supply_of p arcs v r) refl),
      each_supply p arcs P (suc v) ranges after (λ u s e. let there : v + suc u ≡ suc v + u = omega arith in subst (λ (w : ℕ). P w s) there (f (suc u) s e)),
    )

-- and back
pub supply_at : (p : Profile) (arcs : List InstArc) (P : ℕ → ℤ → Type 0) (v : ℕ) (ranges : List NodeRange) (last : ℤ) → EachNode (λ u r. P u (supply_of p arcs u r)) v ranges → P (v + length ranges) last → (u : ℕ) (s : ℤ) → slice_get (supplies_from p arcs v ranges ++ last ∷ []) u ≡ Some s → P (v + u) s
supply_at p arcs P v [] last h k zero s e = let same : last ≡ s = cc in subst (P (v + 0)) same k
supply_at p arcs P v [] last h k (suc u) s e = cc
supply_at p arcs P v (r ∷ ranges) last h k zero s e =
    let same : supply_of p arcs v r ≡ s = cc in
    let here : v ≡ v + 0 = omega arith in
    subst (λ (w : ℕ). P w s) here (subst (P v) same h.0)
supply_at p arcs P v (r ∷ ranges) last h k (suc u) s e =
    let end : v + suc (length ranges) ≡ suc v + length ranges = omega arith in
    let there : suc v + u ≡ v + suc u = omega arith in
    subst (λ (w : ℕ). P w s) there (supply_at p arcs P (suc v) ranges last h.1 (subst (λ (w : ℕ). P w last) end k) u s e)

-- the sum of the supplies is the sum of what each node sends out
pub sum-supplies : (p : Profile) (arcs : List InstArc) (f : ℕ → ℤ) (v : ℕ) (ranges : List NodeRange) → EachNode (λ u r. f u ≡ supply_of p arcs u r) v ranges → sum_over f v (length ranges) ≡ sum_of (supplies_from p arcs v ranges)
sum-supplies p arcs f v [] h = refl
sum-supplies p arcs f v (r ∷ ranges) h = omega (arith, ints, h.0, sum-supplies p arcs f (suc v) ranges h.1)

-- what all nodes of a problem send out is nothing
pub outflows-sum : (n : ℕ) (arcs : List FlowArc) (flows : List ℤ) → AllByRecursion (λ a. a.src < n) arcs → AllByRecursion (λ a. a.dst < n) arcs → sum_over (net_outflow arcs flows) 0 n ≡ pos 0
outflows-sum n arcs flows h k =
    omega (
      arith,
      ints,
      sum_over-sub (λ u. flow_on (λ (a : FlowArc). nat_eq a.src u) arcs flows) (λ u. flow_on (λ (a : FlowArc). nat_eq a.dst u) arcs flows) 0 n,
      sum_over-ends (λ (a : FlowArc). a.src) n arcs flows h,
      sum_over-ends (λ (a : FlowArc). a.dst) n arcs flows k,
    )
