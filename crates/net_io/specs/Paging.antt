-- Output through a buffer of one page (terms of Rust's std::io, BufWriter).
use Rattle.std.specs.Prelude.{◌≡◌, ℕ, Bool, true, false, List, [], ◌++◌, Option}
use Rattle.std.specs.Io.KnownBytes.{Appends}
use Rattle.net_io.specs.Ends.{WritesFront}

-- a page: the bytes that are not yet written, and whether a write has failed
pub record Held : Type 0 where
  pub bytes : List ℕ
  pub failed : Bool

abbrev pub empty : Held
empty = record { bytes = []; failed = false }

-- a sink: the bytes that it has taken, if they are known, and whether a write to it has failed
pub record Taken : Type 0 where
  pub bytes : Option (List ℕ)
  pub failed : Bool

-- a prefix of the bytes of the page and the text is written, and the rest is the new page
pub record Passes (old new : Option (List ℕ)) (before text after : List ℕ) : Type 0 where
  pub front : List ℕ
  pub gone : Appends old new front
  pub parts : before ++ text ≡ front ++ after

-- the text passes through the page to the sink; if a write fails, a prefix was written, and nothing
-- is written after it
pub record Sends (old new : Taken) (before : Held) (text : List ℕ) (after : Held) : Type 0 where
  pub passes : before.failed ≡ false → after.failed ≡ false → Passes old.bytes new.bytes before.bytes text after.bytes × (new.failed ≡ old.failed)
  pub stops : before.failed ≡ false → after.failed ≡ true → WritesFront old.bytes new.bytes (before.bytes ++ text) × (new.failed ≡ true)
  pub stopped : before.failed ≡ true → (after.failed ≡ true) × (new ≡ old)

-- the same of a sink before and after: `taken` and `failed` are what is known of it
abbrev pub SendsTo : {S : Type 0} (taken : S → Option (List ℕ)) (failed : S → Bool) (old new : S) (before : Held) (text : List ℕ) (after : Held) → Type 0
SendsTo taken failed old new before text after = Sends (record { bytes = taken old; failed = failed old }) (record { bytes = taken new; failed = failed new }) before text after
