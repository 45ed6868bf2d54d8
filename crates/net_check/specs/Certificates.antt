-- What settles a minimum-cost flow problem. Complementary slackness (Ahuja, Magnanti, Orlin:
-- Network Flows, chapter 9) shows that a flow has minimum cost. A set of nodes whose arcs cannot
-- carry its supply (Gale's condition) shows that no feasible flow exists.
use Rattle.std.specs.Prelude.{◌≡◌, ℕ, Bool, false, not, ◌&&◌, List, length, map, ℤ, pos, ◌+ℤ◌, ◌-ℤ◌, ◌<ℤ◌, vec_len, slice_index_or}
use Rattle.std.specs.List.{AllZip}
use Rattle.net_normal.specs.Sums.{flow_on}
use Rattle.net_normal.specs.Flows.{IsFeasibleFlow, cost_of}
use Rattle.net_normal.specs.declared.problem.FlowArc.{FlowArc}
use Rattle.net_normal.specs.declared.problem.Problem.{Problem}
use Rattle.net_check.specs.declared.certificate.Side.{Side}
use Rattle.net_check.specs.declared.certificate.Side.TheVariants.{Over, Under}
use Rattle.net_check.specs.declared.certificate.Certificate.{Certificate}
use Rattle.net_check.specs.declared.certificate.Certificate.TheVariants.{Optimal, Cut}

-- the arc's cost plus the potential of its tail minus the potential of its head
abbrev pub reduced_cost : List ℤ → FlowArc → ℤ
reduced_cost potentials arc = (arc.cost +ℤ slice_index_or potentials arc.src (pos 0)) -ℤ slice_index_or potentials arc.dst (pos 0)

-- positive reduced cost: the flow is LOW; negative reduced cost: the flow is CAP
pub record IsComplementary (potentials : List ℤ) (arc : FlowArc) (flow : ℤ) : Type 0 where
  pub positive : pos 0 <ℤ reduced_cost potentials arc → flow ≡ arc.low
  pub negative : reduced_cost potentials arc <ℤ pos 0 → flow ≡ arc.cap

-- a feasible flow with its cost, and potentials that prove that the cost is minimal
pub record IsOptimal (problem : Problem) (value : ℤ) (flows potentials : List ℤ) : Type 0 where
  pub one_a_node : length potentials ≡ vec_len problem.supplies
  pub feasible : IsFeasibleFlow problem flows
  pub cost : value ≡ cost_of problem flows
  pub slackness : AllZip (IsComplementary potentials) problem.arcs.items flows

-- whether node v is in the set
abbrev pub is_in : List Bool → ℕ → Bool
is_in flags v = slice_index_or flags v false

-- whether the arc leaves the set (`goes_out`) or enters it (`comes_in`); an arc inside the set does
-- neither
abbrev pub goes_out : List Bool → FlowArc → Bool
goes_out flags arc = is_in flags arc.src && not (is_in flags arc.dst)

abbrev pub comes_in : List Bool → FlowArc → Bool
comes_in flags arc = is_in flags arc.dst && not (is_in flags arc.src)

-- the total supply of the nodes in the set
abbrev pub supply_in : List ℤ → List Bool → ℤ
supply_in supplies flags = flow_on (λ flag. flag) flags supplies

-- the most that the arcs can carry out of the set: CAP of leaving arcs minus LOW of entering arcs
abbrev pub most_out : List FlowArc → List Bool → ℤ
most_out arcs flags = flow_on (goes_out flags) arcs (map (λ arc. arc.cap) arcs) -ℤ flow_on (comes_in flags) arcs (map (λ arc. arc.low) arcs)

-- the least that the arcs must carry out of the set: LOW of leaving arcs minus CAP of entering arcs
abbrev pub least_out : List FlowArc → List Bool → ℤ
least_out arcs flags = flow_on (goes_out flags) arcs (map (λ arc. arc.low) arcs) -ℤ flow_on (comes_in flags) arcs (map (λ arc. arc.cap) arcs)

-- the set's supply is outside the range that its arcs allow
abbrev pub IsViolated : Problem → List Bool → Side → Type 0
IsViolated problem flags Over = most_out problem.arcs.items flags <ℤ supply_in problem.supplies.items flags
IsViolated problem flags Under = supply_in problem.supplies.items flags <ℤ least_out problem.arcs.items flags

pub record IsViolatedCut (problem : Problem) (flags : List Bool) (side : Side) : Type 0 where
  pub one_a_node : length flags ≡ vec_len problem.supplies
  pub violated : IsViolated problem flags side

abbrev pub IsCertificate : Problem → Certificate → Type 0
IsCertificate problem (Optimal value flows potentials) = IsOptimal problem value flows.items potentials.items
IsCertificate problem (Cut flags side) = IsViolatedCut problem flags.items side

-- one flow for each arc, and one potential for each node
pub record HasFlowShape (problem : Problem) (flows potentials : List ℤ) : Type 0 where
  pub one_an_arc : length flows ≡ vec_len problem.arcs
  pub one_a_node : length potentials ≡ vec_len problem.supplies

-- a certificate whose lists have the problem's sizes
abbrev pub HasShape : Problem → Certificate → Type 0
HasShape problem (Optimal value flows potentials) = HasFlowShape problem flows.items potentials.items
HasShape problem (Cut flags side) = length flags.items ≡ vec_len problem.supplies
