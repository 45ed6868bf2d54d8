-- What reading from a source and writing to a sink does to their bytes (terms of Rust's std::io,
-- Read and Write).
use Rattle.std.specs.Prelude.{◌≡◌, ℕ, ◌+◌, ◌-◌, ◌≤◌, ◌⊎◌, Bool, false, ◌==◌, List, ◌++◌, length, Option, Some, None}
use Rattle.std.specs.Io.KnownBytes.{Appends, Consumes, IsAtEnd}

-- all bytes up to the end, if at most `limit`, else limit + 1 bytes
pub record ReadsToLimit (limit : ℕ) (old new : Option (List ℕ)) (text : List ℕ) : Type 0 where
  pub bytes : Consumes old new text
  pub stop : ((length text ≤ limit) × IsAtEnd new) ⊎ (length text ≡ limit + 1)

-- a prefix of the bytes was read, at most limit + 1 bytes
pub record ReadsFront (limit : ℕ) (old new : Option (List ℕ)) : Type 0 where
  pub front : List ℕ
  pub bytes : Consumes old new front
  pub few : length front ≤ limit + 1

-- a prefix of the text was written
abbrev pub WritesFront : Option (List ℕ) → Option (List ℕ) → List ℕ → Type 0
WritesFront old new text = (front rest : List ℕ) × (text ≡ front ++ rest) × Appends old new front

-- a stream in memory must fail now: its countdown to failure is 0
abbrev pub is_due : Option ℕ → Bool
is_due None = false
is_due (Some left) = left == 0

-- the countdown after one more call
abbrev pub counted : Option ℕ → Option ℕ
counted None = None
counted (Some left) = Some (left - 1)
