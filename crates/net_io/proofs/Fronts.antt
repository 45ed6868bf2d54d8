-- What a source gave, read by read.
use Rattle.std.proofs.Common.{◌≡◌, ◌≤◌, ℕ, ◌+◌, List, ◌++◌, length, Ok, Err, arith, length-append, subst, sym}
use Rattle.std.specs.Prelude.{Option, Result, OnErr, ◌⊎◌}
use Rattle.std.specs.Io.KnownBytes.{Consumes, Keeps, IsAtEnd}
use Rattle.std.proofs.KnownBytes.{Consumes-kept, Consumes-trans}
use Rattle.net_io.specs.Ends.{ReadsToLimit, ReadsFront}

-- a read failed behind this front
pub front_kept : {A E : Type 0} (limit : ℕ) (a b c : Option (List ℕ)) (text : List ℕ) (r : Result A E) → length text ≤ limit → Consumes a b text → Keeps b c → OnErr r (ReadsFront limit a c)
front_kept limit a b c text (Ok x) few read kept = tt
front_kept limit a b c text (Err e) few read kept = record { front = text; bytes = Consumes-kept a b c text read kept; few = omega arith }

-- there was no memory for one more piece
pub front_joined : {A E : Type 0} (limit : ℕ) (a b c : Option (List ℕ)) (text piece : List ℕ) (r : Result A E) → length text + length piece ≤ limit + 1 → Consumes a b text → Consumes b c piece → OnErr r (ReadsFront limit a c)
front_joined limit a b c text piece (Ok x) few read more = tt
front_joined limit a b c text piece (Err e) few read more = record { front = text ++ piece; bytes = Consumes-trans a b c text piece read more; few = omega (arith, length-append text piece) }

-- the end, or one byte past the limit
pub read_to : (limit : ℕ) (a b c : Option (List ℕ)) (text piece whole : List ℕ) → whole ≡ text ++ piece → Consumes a b text → Consumes b c piece → ((length whole ≤ limit) × IsAtEnd c) ⊎ (length whole ≡ limit + 1) → ReadsToLimit limit a c whole
read_to limit a b c text piece whole is read more stop = record { bytes = let P : List ℕ → Type 0 = Consumes a c in subst P (sym is) (Consumes-trans a b c text piece read more); stop = stop }
