-- The meaning of a field of a problem file.
use Rattle.std.specs.Prelude.{ℤ}

-- a field that begins with `c`; `p`, `n`, `a`, `min`; a number; or anything else
pub data Word : Type 0 where
  Comment : Word
  Problem : Word
  Node : Word
  Arc : Word
  Min : Word
  Number : ℤ → Word
  Other : Word
