-- Prices that prove a plan. They and the network alone show that no feasible assignment has a better value (Ahuja, Magnanti, Orlin: Network
-- Flows, chapter 9).
use Rattle.std.specs.Prelude.{◌≡◌, ℕ, Bool, List, [], ◌∷◌, ◌++◌, map, Option, None, Some, if◌then◌else◌, ℤ, pos, ◌+ℤ◌, ◌-ℤ◌, ◌<ℤ◌, ◌≤ℤ◌}
use Rattle.std.specs.List.{AllZip, IsDistinct}
use Rattle.net_normal.specs.Links.{signed}
use Rattle.net_normal.specs.Sums.{price_of}
use Rattle.net_normal.specs.declared.instance.Sense.{Sense}
use Rattle.net_sets.specs.Sets.{Tuple}
use Rattle.net_expr.specs.Worlds.{Name}
use Rattle.net_meaning.specs.Network.{Node, Arc, Network, Assignment, same_label, is_at, flow_on, net_inflow, IsSatisfiedBy, IsFeasible, HasValue}
use Rattle.net_meaning.specs.Represents.{by_label}
use Rattle.net_report.specs.Prices.{prices_of_all}
use Rattle.net_driver.specs.declared.answer.Answer.{Answer}
use Rattle.net_driver.specs.declared.answer.Outcome.{Outcome}
use Rattle.net_driver.specs.declared.answer.Outcome.TheVariants.{Displayed, Infeasible}
use Rattle.net_driver.specs.declared.compiled.Compiled.{Compiled}
use Rattle.net_driver.specs.IsSolved.{IsAsGood}
use Rattle.net_driver.specs.Meaning.{IsSolution}
use Rattle.net_driver.specs.PricedPlans.{IsSolvedWithPrices}

-- the price at an end of an arc: that of its node; 0 if the end is missing
abbrev pub price_at : List Node → (prices : List ℤ) → Option (Name × Tuple) → ℤ
price_at vs prices None = pos 0
price_at [] prices (Some r) = pos 0
price_at (v ∷ vs) [] (Some r) = pos 0
price_at (v ∷ vs) (p ∷ prices) (Some r) = if is_at (Some r) v.label then p else price_at vs prices (Some r)

-- the reduced cost of each arc: its coefficient plus the price where it leaves minus the price where it enters
abbrev pub reduced_costs : List Node → (prices : List ℤ) → List Arc → (coefficients : List ℤ) → List ℤ
reduced_costs vs prices [] coefficients = []
reduced_costs vs prices (a ∷ all) [] = []
reduced_costs vs prices (a ∷ all) (c ∷ coefficients) = ((c +ℤ price_at vs prices a.from) -ℤ price_at vs prices a.to) ∷ reduced_costs vs prices all coefficients

-- the value of every assignment is this constant plus the sum over all arcs of coefficient times flow. So a coefficient counts the arc's `obj`
-- phrases and its terms in the objective's expression.
abbrev pub AreCoefficients : Network → (constant : ℤ) (coefficients : List ℤ) → Type 0
AreCoefficients network constant coefficients = (x : Assignment) → HasValue network x (constant +ℤ price_of (λ c. c) coefficients (map (flow_on x) network.arcs))

-- an arc with a positive reduced cost carries its lower bound, one with a negative reduced cost its upper bound; to maximize the other way round
pub record IsAtBound (sense : Sense) (x : Assignment) (a : Arc) (cost : ℤ) : Type 0 where
  pub positive : pos 0 <ℤ signed sense cost → flow_on x a ≡ a.lower
  pub negative : signed sense cost <ℤ pos 0 → flow_on x a ≡ a.upper

-- a node with a positive price has the least net inflow with which its condition is true, one with a negative price the greatest; to maximize
-- the other way round
pub record IsAtSide (sense : Sense) (all : List Arc) (x : Assignment) (v : Node) (price : ℤ) : Type 0 where
  pub positive : pos 0 <ℤ signed sense price → (z : Assignment) → IsSatisfiedBy all z v → net_inflow all x v.label ≤ℤ net_inflow all z v.label
  pub negative : signed sense price <ℤ pos 0 → (z : Assignment) → IsSatisfiedBy all z v → net_inflow all z v.label ≤ℤ net_inflow all x v.label

-- the prices of the nodes and the reduced costs of the arcs, in order, prove that the assignment is optimal if it is feasible
pub record ProvePlan (network : Network) (x : Assignment) (prices costs : List ℤ) : Type 0 where
  pub constant : ℤ
  pub coefficients : List ℤ
  pub are_coefficients : AreCoefficients network constant coefficients
  pub are_costs : costs ≡ reduced_costs network.nodes prices network.arcs coefficients
  pub arcs : AllZip (IsAtBound network.objective.sense x) network.arcs costs
  pub nodes : AllZip (IsAtSide network.objective.sense network.arcs x) network.nodes prices

-- if no two nodes have the same name and key, every feasible assignment has a value that is no better
abbrev pub PricesProve : Type 0
PricesProve = (network : Network) (x : Assignment) (value : ℤ) (prices costs : List ℤ) → IsDistinct same_label (map (λ (v : Node). v.label) network.nodes)
    → ProvePlan network x prices costs → HasValue network x value → (z : Assignment) (other : ℤ) → IsFeasible network z → HasValue network z other → IsAsGood network.objective.sense value other

-- the text prints a plan, then prices and reduced costs that prove it in this network; or it prints a cut alone
abbrev pub ProvesIn : Network → Compiled → Outcome → List ℕ → Type 0
ProvesIn network c (Displayed shown numbers value) text =
    (prices : List ℤ) × (costs : List ℤ) × (text ≡ shown.items ++ prices_of_all c.names prices costs) × ProvePlan network (by_label network.arcs numbers.items) prices costs
ProvesIn network c (Infeasible shown flags side) text = text ≡ shown.items

-- the solved model is that of the two inputs, and the prices in the text prove its plan in the network that the inputs mean
pub record IsPricedSolution (requested : Option Name) (model_text data_text : List ℕ) (a : Answer) (text : List ℕ) : Type 0 where
  pub solution : IsSolution requested model_text data_text a
  pub proves : ProvesIn solution.compilation.network a.compiled a.outcome text

-- the printed prices of a solved model prove its plan
abbrev pub PricedPlansAreProved : Type 0
PricedPlansAreProved = (lean : Bool) (wanted : Option Name) (model_text data_text : List ℕ) (a : Answer) (text : List ℕ) → IsSolvedWithPrices lean wanted model_text data_text a text
    → IsPricedSolution wanted model_text data_text a text
