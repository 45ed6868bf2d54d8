-- The invariants of a run's state.
use Rattle.std.specs.Prelude.{◌≡◌, ℕ, ◌^◌, ◌<◌, ◌≤◌, Bool, List, length, ℤ, pos, ◌+ℤ◌, ◌-ℤ◌, ◌≤ℤ◌, ◌<ℤ◌, neg_ℤ, vec_len, slice_index_or}
use Rattle.net_normal.specs.Flows.{IsWithinCapacity}
use Rattle.net_normal.specs.declared.problem.FlowArc.{FlowArc}
use Rattle.net_normal.specs.declared.problem.Problem.{Problem}
use Rattle.net_solve.specs.Pseudoflows.{arc_at}
use Rattle.net_solve.specs.declared.scaling.Machine.{Machine}
use Rattle.net_solve.specs.Runs.{State, Reaches, excess_at, reduced, factor, epsilon, tail_of, residual_of, reduced_along}

-- flows within their bounds, and the excess of each node
pub record IsCarried (problem : Problem) (flows excess : List ℤ) : Type 0 where
  pub flows_count : length flows ≡ vec_len problem.arcs
  pub excess_count : length excess ≡ vec_len problem.supplies
  pub capacity : (i : ℕ) → i < vec_len problem.arcs → IsWithinCapacity (arc_at problem i) (slice_index_or flows i (pos 0))
  pub balance : (v : ℕ) → v < vec_len problem.supplies → slice_index_or excess v (pos 0) ≡ excess_at problem flows v

-- potentials only decrease, and fit 62 bits
pub record IsDeep (x : ℤ) : Type 0 where
  pub above : neg_ℤ (pos (2 ^ 61)) ≤ℤ x
  pub below : x ≤ℤ pos 0

pub record AreDeep (nodes : ℕ) (potentials : List ℤ) : Type 0 where
  pub count : length potentials ≡ nodes
  pub each : (v : ℕ) → v < nodes → IsDeep (slice_index_or potentials v (pos 0))

-- no residual arc over this arc, forward or backward, has a reduced cost below -e
pub record IsEpsilonOptimal (e : ℤ) (cost : ℤ) (arc : FlowArc) (flow : ℤ) : Type 0 where
  pub forwards : flow <ℤ arc.cap → neg_ℤ e ≤ℤ cost
  pub backwards : arc.low <ℤ flow → cost ≤ℤ e

abbrev pub AreEpsilonOptimal : Problem → ℕ → List ℤ → List ℤ → Type 0
AreEpsilonOptimal problem e flows potentials = (i : ℕ) → i < vec_len problem.arcs → IsEpsilonOptimal (pos e) (reduced (factor problem) potentials (arc_at problem i)) (arc_at problem i) (slice_index_or flows i (pos 0))

abbrev pub state_of : Machine → State
state_of m = record { flows = m.carried.flows.items; potentials = m.potentials.items }

-- the invariant between phases
pub record IsConsistent (problem : Problem) (m : Machine) : Type 0 where
  pub carried : IsCarried problem m.carried.flows.items m.carried.excess.items
  pub deep : AreDeep (vec_len problem.supplies) m.potentials.items
  pub run : Reaches problem m.phases m.steps (state_of m)
  pub within : m.steps ≤ m.budget

-- the invariant within a phase
pub record IsRunning (problem : Problem) (m : Machine) : Type 0 where
  pub standing : IsConsistent problem m
  pub some : 0 < m.phases
  pub epsilon_is : m.epsilon ≡ pos (epsilon problem m.phases)
  pub near : AreEpsilonOptimal problem (epsilon problem m.phases) m.carried.flows.items m.potentials.items

-- an amount that one push can send over an arc
pub record IsSendable (problem : Problem) (m : Machine) (index : ℕ) (forwards : Bool) (amount : ℤ) : Type 0 where
  pub some : pos 0 <ℤ amount
  pub excess : amount ≤ℤ slice_index_or m.carried.excess.items (tail_of (arc_at problem index) forwards) (pos 0)
  pub room : amount ≤ℤ residual_of (arc_at problem index) (slice_index_or m.carried.flows.items index (pos 0)) forwards
  pub negative : reduced_along (factor problem) m.potentials.items (arc_at problem index) forwards <ℤ pos 0

-- an amount by which a node's potential can be lowered
pub record MaySink (potential least amount e : ℤ) : Type 0 where
  pub none : pos 0 ≤ℤ least
  pub some : pos 0 <ℤ amount
  pub left : amount ≤ℤ (least +ℤ e)
  pub deep : IsDeep (potential -ℤ amount)
