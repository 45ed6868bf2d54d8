-- Flows that can be mapped back to an assignment.
use Rattle.std.specs.Prelude.{ℕ, ◌-◌, ◌<◌, ◌≤◌, All, List, length, ℤ, pos, ◌≤ℤ◌, slice_index_or}
use Rattle.net_normal.specs.Limits.{flow_limit}

-- the arc with this number, counted from 1, has a flow, between 0 and the maximum flow
pub record IsCarried (flows : List ℤ) (number : ℕ) : Type 0 where
  pub there : number ≤ length flows
  pub least : pos 0 ≤ℤ slice_index_or flows (number - 1) (pos 0)
  pub most : slice_index_or flows (number - 1) (pos 0) ≤ℤ pos flow_limit

-- the same for each nonzero number (0 means that the problem omits the arc)
abbrev pub AreCarried : List ℤ → List ℕ → Type 0
AreCarried flows numbers = All (λ number. 0 < number → IsCarried flows number) numbers
