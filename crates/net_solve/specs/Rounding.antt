-- Converting potentials for scaled costs to potentials for the original costs. There are more
-- possible residues than nodes, so one residue is not taken by any potential. Counted from there,
-- rounding never makes a reduced cost negative.
use Rattle.std.specs.Prelude.{◌≡◌, ◌≢◌, ℕ, ◌+◌, ◌-◌, ◌/◌, ◌%◌, ◌<◌, ◌≤◌, Bool, false, List, length, nat_abs, ℤ, pos, ◌-ℤ◌, ◌≤ℤ◌, slice_index_or}

abbrev pub is_taken : List Bool → ℕ → Bool
is_taken taken residue = slice_index_or taken residue false

-- the residue of no potential's absolute value
pub record IsFree (potentials : List ℤ) (free : ℕ) : Type 0 where
  pub inside : free < length potentials + 1
  pub not_taken : (v : ℕ) → v < length potentials → nat_abs (slice_index_or potentials v (pos 0)) % (length potentials + 1) ≢ free

-- the number of whole units of a potential below 0, after rotating the residues so that the free
-- one is the greatest
abbrev pub level : ℕ → ℕ → ℤ → ℕ
level factor free x = (nat_abs x + (factor - 1 - free)) / factor

abbrev pub level_at : List ℤ → ℕ → ℕ → ℕ
level_at potentials free v = level (length potentials + 1) free (slice_index_or potentials v (pos 0))

-- the differences of the rounded potentials are those of the levels
pub record IsRounded (potentials whole : List ℤ) : Type 0 where
  pub free : ℕ
  pub top : ℕ
  pub is_free : IsFree potentials free
  pub count : length whole ≡ length potentials
  pub each : (v : ℕ) → v < length potentials → slice_index_or whole v (pos 0) ≡ pos top -ℤ pos (level_at potentials free v)

-- no node has a greater level
abbrev pub IsLowest : List ℤ → ℕ → ℕ → Type 0
IsLowest potentials free lowest = (v : ℕ) → v < length potentials → level_at potentials free v ≤ level_at potentials free lowest

-- the minimum is 0
pub record AreFromZero (potentials : List ℤ) : Type 0 where
  pub least : (v : ℕ) → v < length potentials → pos 0 ≤ℤ slice_index_or potentials v (pos 0)
  pub place : ℕ
  pub inside : place < length potentials
  pub none : slice_index_or potentials place (pos 0) ≡ pos 0
