-- A flow within its bounds and complementary to its potentials, which need not satisfy the supplies
-- (Ahuja, Magnanti, Orlin: Network Flows, chapter 9: a pseudoflow).
use Rattle.std.specs.Prelude.{negsuc, [], ◌∷◌, ◌+◌, ◌<ℤ◌, ◌==◌, if◌then◌else◌, ◌≡◌, ◌≢◌, ◌||◌, ◌⊎◌, ◌≤ℤ◌, neg_ℤ, ℕ, ◌<◌, ◌≤◌, ◌*◌, Bool, true, List, length, set, ℤ, pos, ◌+ℤ◌, ◌-ℤ◌, vec_len, slice_index_or}
use Rattle.std.specs.List.{AllZip}
use Rattle.net_normal.specs.Flows.{IsWithinCapacity, net_outflow}
use Rattle.net_normal.specs.declared.problem.FlowArc.{FlowArc}
use Rattle.net_normal.specs.declared.problem.Problem.{Problem}
use Rattle.net_check.specs.Certificates.{IsComplementary, reduced_cost, goes_out, comes_in}

-- the value of a read past the end
abbrev pub no_arc : FlowArc
no_arc = record { src = 0; dst = 0; low = pos 0; cap = pos 0; cost = pos 0 }

abbrev pub arc_at : Problem → ℕ → FlowArc
arc_at problem i = slice_index_or problem.arcs.items i no_arc

-- an amount added at an index
abbrev pub changed : List ℤ → ℕ → ℤ → List ℤ
changed flows i amount = set flows i (slice_index_or flows i (pos 0) +ℤ amount)

pub record IsUnderWay (problem : Problem) (flows potentials excess : List ℤ) : Type 0 where
  pub potentials_count : length potentials ≡ vec_len problem.supplies
  pub excess_count : length excess ≡ vec_len problem.supplies
  pub capacity : AllZip IsWithinCapacity problem.arcs.items flows
  pub slackness : AllZip (IsComplementary potentials) problem.arcs.items flows
  pub balance : (v : ℕ) → v < vec_len problem.supplies → slice_index_or excess v (pos 0) ≡ slice_index_or problem.supplies.items v (pos 0) -ℤ net_outflow problem.arcs.items flows v

-- an arc without residual capacity out of the set: a leaving arc is at CAP, an entering arc at LOW
pub record IsFull (flags : List Bool) (arc : FlowArc) (flow : ℤ) : Type 0 where
  pub out : goes_out flags arc ≡ true → flow ≡ arc.cap
  pub into : comes_in flags arc ≡ true → flow ≡ arc.low

-- a residual arc out of the set, forward or backward, whose reduced cost is 0 after decreasing the
-- set's potentials by `depth`
pub record IsSlackArc (potentials : List ℤ) (flags : List Bool) (depth : ℤ) (arc : FlowArc) (flow : ℤ) : Type 0 where
  pub crosses : (goes_out flags arc || comes_in flags arc) ≡ true
  pub out : goes_out flags arc ≡ true → (flow ≢ arc.cap) × (depth ≡ reduced_cost potentials arc)
  pub into : comes_in flags arc ≡ true → (flow ≢ arc.low) × (depth ≡ neg_ℤ (reduced_cost potentials arc))

-- the arc is not a residual arc out of the set, or it becomes one at this depth or later
pub record IsClear (potentials : List ℤ) (flags : List Bool) (depth : ℤ) (arc : FlowArc) (flow : ℤ) : Type 0 where
  pub out : goes_out flags arc ≡ true → (flow ≡ arc.cap) ⊎ (depth ≤ℤ reduced_cost potentials arc)
  pub into : comes_in flags arc ≡ true → (flow ≡ arc.low) ⊎ (depth ≤ℤ neg_ℤ (reduced_cost potentials arc))

-- x if it is positive, else 0
abbrev pub positive : ℤ → ℕ
positive (pos n) = n
positive (negsuc n) = 0

-- the total excess of all nodes
abbrev pub too_much : List ℤ → ℕ
too_much [] = 0
too_much (x ∷ xs) = positive x + too_much xs

-- an amount moves from u to v
abbrev pub Moves : ℕ → ℕ → ℕ → ℤ → List ℤ → List ℤ → Type 0
Moves n u v d old new = (w : ℕ) → w < n → slice_index_or new w (pos 0) ≡ (slice_index_or old w (pos 0) -ℤ (if u == w then d else pos 0)) +ℤ (if v == w then d else pos 0)

-- potentials from 0 to the limit of their kind
abbrev pub AreFromTo : ℕ → List ℤ → Type 0
AreFromTo most potentials = (v : ℕ) → v < length potentials → (pos 0 ≤ℤ slice_index_or potentials v (pos 0)) × (slice_index_or potentials v (pos 0) ≤ℤ pos most)

-- shortening gaps: the difference of two potentials is unchanged, or it was above `most` and is
-- still at least `most`, with the same sign
pub record IsCloser (most : ℕ) (x y u v : ℤ) : Type 0 where
  pub either : ((v -ℤ u) ≡ (y -ℤ x)) ⊎ (((pos most <ℤ (y -ℤ x)) × (pos most ≤ℤ (v -ℤ u))) ⊎ ((pos most <ℤ (x -ℤ y)) × (pos most ≤ℤ (u -ℤ v))))

abbrev pub AreCloser : ℕ → List ℤ → List ℤ → Type 0
AreCloser most old new = (u v : ℕ) → u < length old → v < length old → IsCloser most (slice_index_or old u (pos 0)) (slice_index_or old v (pos 0)) (slice_index_or new u (pos 0)) (slice_index_or new v (pos 0))

abbrev pub IsRising : List ℤ → Type 0
IsRising xs = (i j : ℕ) → i ≤ j → j < length xs → slice_index_or xs i (pos 0) ≤ℤ slice_index_or xs j (pos 0)

pub record StandsIn (xs : List ℤ) (x : ℤ) : Type 0 where
  pub place : ℕ
  pub inside : place < length xs
  pub is : slice_index_or xs place (pos 0) ≡ x

-- the level at the index of the number
pub record HasLevelOf (sorted levels : List ℤ) (x level : ℤ) : Type 0 where
  pub place : ℕ
  pub inside : place < length sorted
  pub is : slice_index_or sorted place (pos 0) ≡ x
  pub level_is : slice_index_or levels place (pos 0) ≡ level

-- levels from 0 on with the differences of the numbers, except that differences above `most` can
-- shrink to `most` or more
pub record AreLevelsOf (most : ℕ) (sorted levels : List ℤ) : Type 0 where
  pub count : length levels ≡ length sorted
  pub closer : (i j : ℕ) → i ≤ j → j < length sorted → IsCloser most (slice_index_or sorted i (pos 0)) (slice_index_or sorted j (pos 0)) (slice_index_or levels i (pos 0)) (slice_index_or levels j (pos 0))
  pub size : AreFromTo (length sorted * most) levels
