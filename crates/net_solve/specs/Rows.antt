-- Adjacency lists: the arcs out of and into each node, contiguous in one array.
use Rattle.std.specs.Prelude.{◌≡◌, ◌⊎◌, ℕ, ◌+◌, ◌<◌, ◌≤◌, Bool, true, false, List, length, ℤ, pos, ◌+ℤ◌, ◌-ℤ◌, ◌*ℤ◌, neg_ℤ, ◌≤ℤ◌, vec_len, slice_index_or}
use Rattle.net_normal.specs.declared.problem.Problem.{Problem}
use Rattle.net_solve.specs.Pseudoflows.{arc_at}
use Rattle.net_solve.specs.declared.rows.Entry.{Entry}
use Rattle.net_solve.specs.Runs.{factor, tail_of}

-- an arc as seen from the tail of its residual arc
abbrev pub entry_of : Problem → ℕ → Bool → Entry
entry_of problem i true = record { head = (arc_at problem i).dst; index = i; forwards = true; cost = (arc_at problem i).cost *ℤ pos (factor problem); bound = (arc_at problem i).cap }
entry_of problem i false = record { head = (arc_at problem i).src; index = i; forwards = false; cost = neg_ℤ ((arc_at problem i).cost *ℤ pos (factor problem)); bound = (arc_at problem i).low }

-- the value of a read past the end
abbrev pub no_entry : Entry
no_entry = record { head = 0; index = 0; forwards = false; cost = pos 0; bound = pos 0 }

abbrev pub entry_at : List Entry → ℕ → Entry
entry_at entries place = slice_index_or entries place no_entry

-- the entry describes its arc
pub record IsEntry (problem : Problem) (entry : Entry) : Type 0 where
  pub inside : entry.index < vec_len problem.arcs
  pub is : entry ≡ entry_of problem entry.index entry.forwards

-- the arc in this direction is in the adjacency list of its tail
pub record IsListed (problem : Problem) (starts : List ℕ) (entries : List Entry) (i : ℕ) (forwards : Bool) : Type 0 where
  pub place : ℕ
  pub first : slice_index_or starts (tail_of (arc_at problem i) forwards) 0 ≤ place
  pub last : place < slice_index_or starts (tail_of (arc_at problem i) forwards + 1) 0
  pub is : entry_at entries place ≡ entry_of problem i forwards

pub record AreRows (problem : Problem) (starts : List ℕ) (entries : List Entry) : Type 0 where
  pub starts_count : length starts ≡ vec_len problem.supplies + 1
  pub upto : (v : ℕ) → v < length starts → slice_index_or starts v 0 ≤ length entries
  pub entries_are : (place : ℕ) → place < length entries → IsEntry problem (entry_at entries place)
  pub listed : (i : ℕ) (forwards : Bool) → i < vec_len problem.arcs → IsListed problem starts entries i forwards

-- the entry's arc has no residual capacity, or its reduced cost is at least `least`
abbrev pub IsScanned : List ℤ → List ℤ → ℤ → ℤ → Entry → Type 0
IsScanned flows potentials potential least entry = (slice_index_or flows entry.index (pos 0) ≡ entry.bound) ⊎ (least ≤ℤ ((entry.cost +ℤ potential) -ℤ slice_index_or potentials entry.head (pos 0)))
