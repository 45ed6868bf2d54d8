-- Runs of cost scaling (Goldberg, Tarjan: Finding minimum-cost circulations by successive
-- approximation, 1990), as a transition system that leaves every choice open: which node, which
-- arc, how much, how far.
use Rattle.std.specs.Prelude.{◌≡◌, ◌⊎◌, ℕ, suc, ◌+◌, ◌*◌, ◌/◌, ◌^◌, ◌<◌, max, Bool, List, [], ◌∷◌, length, map, replicate, nat_abs, ℤ, pos, ◌+ℤ◌, ◌-ℤ◌, ◌*ℤ◌, neg_ℤ, ◌<ℤ◌, ◌≤ℤ◌, vec_len, slice_index_or, if◌then◌else◌}
use Rattle.net_normal.specs.Flows.{net_outflow}
use Rattle.net_normal.specs.declared.problem.FlowArc.{FlowArc}
use Rattle.net_normal.specs.declared.problem.Problem.{Problem}
use Rattle.net_solve.specs.Pseudoflows.{arc_at, changed}

-- the state of a run
pub record State : Type 0 where
  pub flows : List ℤ
  pub potentials : List ℤ

-- every flow at LOW, every potential 0
abbrev pub start : Problem → State
start problem = record { flows = map (λ arc. arc.low) problem.arcs.items; potentials = replicate (vec_len problem.supplies) (pos 0) }

-- the excess of a node
abbrev pub excess_at : Problem → List ℤ → ℕ → ℤ
excess_at problem flows v = slice_index_or problem.supplies.items v (pos 0) -ℤ net_outflow problem.arcs.items flows v

-- every supply is satisfied
abbrev pub IsBalanced : Problem → List ℤ → Type 0
IsBalanced problem flows = (v : ℕ) → v < vec_len problem.supplies → excess_at problem flows v ≡ pos 0

-- costs are scaled by one more than the number of nodes
abbrev pub factor : Problem → ℕ
factor problem = vec_len problem.supplies + 1

abbrev pub reduced : ℕ → List ℤ → FlowArc → ℤ
reduced by potentials arc = ((arc.cost *ℤ pos by) +ℤ slice_index_or potentials arc.src (pos 0)) -ℤ slice_index_or potentials arc.dst (pos 0)

-- a residual arc, forward or backward: its tail (`tail_of`), its residual capacity (`residual_of`) and
-- its reduced cost (`reduced_along`)
abbrev pub tail_of : FlowArc → Bool → ℕ
tail_of arc forwards = if forwards then arc.src else arc.dst

abbrev pub residual_of : FlowArc → ℤ → Bool → ℤ
residual_of arc flow forwards = if forwards then arc.cap -ℤ flow else flow -ℤ arc.low

abbrev pub reduced_along : ℕ → List ℤ → FlowArc → Bool → ℤ
reduced_along by potentials arc forwards = if forwards then reduced by potentials arc else neg_ℤ (reduced by potentials arc)

-- each residual arc out of node v has at least this reduced cost
abbrev pub IsLeastOut : Problem → State → ℕ → ℤ → Type 0
IsLeastOut problem state v least = (i : ℕ) (forwards : Bool) → i < vec_len problem.arcs → tail_of (arc_at problem i) forwards ≡ v
    → pos 0 <ℤ residual_of (arc_at problem i) (slice_index_or state.flows i (pos 0)) forwards → least ≤ℤ reduced_along (factor problem) state.potentials (arc_at problem i) forwards

-- a push: a positive amount over a residual arc of negative reduced cost, out of a node with at
-- least that much excess
pub record IsPush (problem : Problem) (old new : State) : Type 0 where
  pub index : ℕ
  pub forwards : Bool
  pub amount : ℤ
  pub inside : index < vec_len problem.arcs
  pub some : pos 0 <ℤ amount
  pub excess : amount ≤ℤ excess_at problem old.flows (tail_of (arc_at problem index) forwards)
  pub room : amount ≤ℤ residual_of (arc_at problem index) (slice_index_or old.flows index (pos 0)) forwards
  pub negative : reduced_along (factor problem) old.potentials (arc_at problem index) forwards <ℤ pos 0
  pub flows : new.flows ≡ changed old.flows index (if forwards then amount else neg_ℤ amount)
  pub potentials : new.potentials ≡ old.potentials

-- a relabel: lowers the potential of a node with excess that has no residual arc of negative
-- reduced cost, so far that none is below -e afterwards
pub record IsLowering (problem : Problem) (e : ℕ) (old new : State) : Type 0 where
  pub node : ℕ
  pub amount : ℤ
  pub inside : node < vec_len problem.supplies
  pub some : pos 0 <ℤ amount
  pub excess : pos 0 <ℤ excess_at problem old.flows node
  pub none : IsLeastOut problem old node (pos 0)
  pub left : IsLeastOut problem new node (neg_ℤ (pos e))
  pub flows : new.flows ≡ old.flows
  pub potentials : new.potentials ≡ changed old.potentials node (neg_ℤ amount)

abbrev pub IsStep : Problem → ℕ → State → State → Type 0
IsStep problem e old new = IsPush problem old new ⊎ IsLowering problem e old new

-- an arc of positive reduced cost is set to LOW, one of negative reduced cost to CAP
pub record Saturates (cost : ℤ) (arc : FlowArc) (old new : ℤ) : Type 0 where
  pub positive : pos 0 <ℤ cost → new ≡ arc.low
  pub negative : cost <ℤ pos 0 → new ≡ arc.cap
  pub level : cost ≡ pos 0 → new ≡ old

-- the start of a phase
pub record Begins (problem : Problem) (old new : State) : Type 0 where
  pub count : length new.flows ≡ vec_len problem.arcs
  pub arcs : (i : ℕ) → i < vec_len problem.arcs → Saturates (reduced (factor problem) old.potentials (arc_at problem i)) (arc_at problem i) (slice_index_or old.flows i (pos 0)) (slice_index_or new.flows i (pos 0))
  pub potentials : new.potentials ≡ old.potentials

-- the maximum absolute value of a cost, 0 without arcs
abbrev pub greatest_cost : List FlowArc → ℕ
greatest_cost [] = 0
greatest_cost (arc ∷ arcs) = max (nat_abs arc.cost) (greatest_cost arcs)

abbrev pub greatest_scaled : Problem → ℕ
greatest_scaled problem = factor problem * greatest_cost problem.arcs.items

-- the tolerance for negative reduced costs in phase k: halved in each phase, but at least 1
abbrev pub epsilon : Problem → ℕ → ℕ
epsilon problem k = max 1 (greatest_scaled problem / 2 ^ k)

-- a phase can begin at the start, and after a phase that ended and was not the last
abbrev pub MayBegin : Problem → ℕ → State → Type 0
MayBegin problem k state = (k ≡ 0) ⊎ (IsBalanced problem state.flows × (1 < epsilon problem k))

-- the states that a run can reach with this many phases and steps; it can stop anywhere
pub data Reaches (problem : Problem) : ℕ → ℕ → State → Type 0 where
  at_start : Reaches problem 0 0 (start problem)
  by_phase : {phases steps : ℕ} {old new : State} → Reaches problem phases steps old → MayBegin problem phases old → Begins problem old new → Reaches problem (suc phases) steps new
  by_step : {phases steps : ℕ} {old new : State} → Reaches problem (suc phases) steps old → IsStep problem (epsilon problem (suc phases)) old new → Reaches problem (suc phases) (suc steps) new

-- a run whose last phase ended with these flows
pub record HasEnded (problem : Problem) (phases steps : ℕ) (flows : List ℤ) : Type 0 where
  pub potentials : List ℤ
  pub run : Reaches problem phases steps (record { flows = flows; potentials = potentials })
  pub some : 0 < phases
  pub last : epsilon problem phases ≡ 1
  pub balanced : IsBalanced problem flows
