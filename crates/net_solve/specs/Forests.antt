-- The forest of residual arcs of reduced cost 0 that an augmentation builds, and the path from one
-- of its nodes to the root.
use Rattle.std.specs.Prelude.{◌≡◌, ◌≢◌, ℕ, ◌+◌, ◌*◌, ◌^◌, ◌<◌, ◌≤◌, Bool, true, false, List, [], ◌∷◌, ◌++◌, length, set, ℤ, pos, ◌+ℤ◌, ◌-ℤ◌, neg_ℤ, ◌<ℤ◌, ◌≤ℤ◌, vec_len, slice_index_or, if◌then◌else◌}
use Rattle.net_normal.specs.declared.problem.FlowArc.{FlowArc}
use Rattle.net_normal.specs.declared.problem.Problem.{Problem}
use Rattle.net_check.specs.Certificates.{is_in, reduced_cost}
use Rattle.net_solve.specs.Pseudoflows.{arc_at}
use Rattle.net_solve.specs.declared.forest.Joined.{Joined}

-- the value of a read past the end
abbrev pub no_join : Joined
no_join = record { node = 0; parent = 0; index = 0; forwards = false }

abbrev pub joined_at : List Joined → ℕ → Joined
joined_at all k = slice_index_or all k no_join

abbrev pub tail_of : Joined → FlowArc → ℕ
tail_of j arc = if j.forwards then arc.src else arc.dst

abbrev pub head_of : Joined → FlowArc → ℕ
head_of j arc = if j.forwards then arc.dst else arc.src

-- the residual capacity towards the node
abbrev pub residual_of : Joined → FlowArc → ℤ → ℤ
residual_of j arc flow = if j.forwards then arc.cap -ℤ flow else flow -ℤ arc.low

-- the change of the arc's flow if this amount is sent towards the node
abbrev pub signed : Joined → ℤ → ℤ
signed j amount = if j.forwards then amount else neg_ℤ amount

pub record IsLink (problem : Problem) (flows potentials : List ℤ) (all : List Joined) (j : Joined) : Type 0 where
  pub index : j.index < vec_len problem.arcs
  pub level : reduced_cost potentials (arc_at problem j.index) ≡ pos 0
  pub tail : tail_of j (arc_at problem j.index) ≡ (joined_at all j.parent).node
  pub head : head_of j (arc_at problem j.index) ≡ j.node
  pub room : pos 0 <ℤ residual_of j (arc_at problem j.index) (slice_index_or flows j.index (pos 0))

-- each node was reached from an earlier node, or has excess; no node occurs twice
pub record IsForest (problem : Problem) (flows potentials excess : List ℤ) (all : List Joined) : Type 0 where
  pub node : (k : ℕ) → k < length all → (joined_at all k).node < vec_len problem.supplies
  pub parent : (k : ℕ) → k < length all → (joined_at all k).parent ≤ k
  pub root : (k : ℕ) → k < length all → (joined_at all k).parent ≡ k → pos 0 <ℤ slice_index_or excess (joined_at all k).node (pos 0)
  pub link : (k : ℕ) → k < length all → (joined_at all k).parent < k → IsLink problem flows potentials all (joined_at all k)
  pub apart : (k m : ℕ) → k < m → m < length all → (joined_at all k).node ≢ (joined_at all m).node

-- the number of nodes that are not in the set
abbrev pub outside : List Bool → ℕ
outside [] = 0
outside (true ∷ flags) = outside flags
outside (false ∷ flags) = 1 + outside flags

-- the maximum potential at the start of an augmentation
abbrev pub level_limit : ℕ
level_limit = 2 * 10 ^ 16

-- the maximum decrease of potentials in an augmentation with this many nodes
abbrev pub depth_limit : ℕ → ℕ
depth_limit nodes = level_limit + 10 ^ 12 * (nodes + 1)

-- the potentials in an augmentation with this many nodes, after this decrease; those outside the
-- forest are unchanged
pub record HasSunk (potentials : List ℤ) (flags : List Bool) (nodes : ℕ) (sunk : ℤ) : Type 0 where
  pub some : pos 0 ≤ℤ sunk
  pub deep : sunk ≤ℤ pos (depth_limit nodes)
  pub low : (v : ℕ) → v < length flags → pos 0 ≤ℤ (slice_index_or potentials v (pos 0) +ℤ sunk)
  pub free : (v : ℕ) → v < length flags → is_in flags v ≡ false → (pos 0 ≤ℤ slice_index_or potentials v (pos 0)) × (slice_index_or potentials v (pos 0) ≤ℤ pos level_limit)
  pub high : (v : ℕ) → v < length flags → is_in flags v ≡ true → (slice_index_or potentials v (pos 0) +ℤ sunk) ≤ℤ pos (level_limit + 10 ^ 12 * nodes)

-- a forest with the set of its nodes, and the position of each node in the order of joining
pub record IsGrown (problem : Problem) (flows potentials excess : List ℤ) (flags : List Bool) (all : List Joined) (places : List ℕ) : Type 0 where
  pub flags_count : length flags ≡ vec_len problem.supplies
  pub places_count : length places ≡ vec_len problem.supplies
  pub counted : length all + outside flags ≡ vec_len problem.supplies
  pub forest : IsForest problem flows potentials excess all
  pub some : 0 < length all
  pub first : pos 0 <ℤ slice_index_or excess (joined_at all 0).node (pos 0)
  pub members : (k : ℕ) → k < length all → is_in flags (joined_at all k).node ≡ true
  pub placed : (v : ℕ) → is_in flags v ≡ true → (slice_index_or places v 0 < length all) × ((joined_at all (slice_index_or places v 0)).node ≡ v)
  pub sunk : ℤ
  pub has_sunk : HasSunk potentials flags (length all) sunk

-- no node of the set has a deficit
abbrev pub HasNoDeficit : List ℤ → List Bool → Type 0
HasNoDeficit excess flags = (v : ℕ) → is_in flags v ≡ true → pos 0 ≤ℤ slice_index_or excess v (pos 0)

abbrev pub Others : ℕ → List ℤ → List ℤ → Type 0
Others i old new = (k : ℕ) → k ≢ i → slice_index_or new k (pos 0) ≡ slice_index_or old k (pos 0)

-- on the path to the root: the deficit is at this position, and the nodes before it are unchanged
pub record IsWalk (problem : Problem) (flows now_flows excess now : List ℤ) (all : List Joined) (place : ℕ) : Type 0 where
  pub inside : place < length all
  pub not_root : (joined_at all place).parent < place
  pub deficit : slice_index_or now (joined_at all place).node (pos 0) <ℤ pos 0
  pub unchanged : (k : ℕ) → k < place → slice_index_or now (joined_at all k).node (pos 0) ≡ slice_index_or excess (joined_at all k).node (pos 0)
  pub same_flow : (k : ℕ) → k ≤ place → (joined_at all k).parent < k → slice_index_or now_flows (joined_at all k).index (pos 0) ≡ slice_index_or flows (joined_at all k).index (pos 0)

-- one more node, at the end
pub record JoinsOne (flags : List Bool) (all : List Joined) (new_flags : List Bool) (new_all : List Joined) : Type 0 where
  pub j : Joined
  pub inside : j.node < length flags
  pub before : is_in flags j.node ≡ false
  pub all_is : new_all ≡ all ++ j ∷ []
  pub flags_is : new_flags ≡ set flags j.node true
