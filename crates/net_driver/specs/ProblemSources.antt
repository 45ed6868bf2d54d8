-- The state of reading a problem file in pieces.
use Rattle.std.specs.Prelude.{ℕ, List}
use Rattle.net_dimacs.specs.Limits.{text_limit}
use Rattle.net_dimacs.specs.Scans.{Stands}
use Rattle.net_dimacs.specs.declared.reading.Reading.{Reading}
use Rattle.net_driver.specs.Runs.{Stream, ReadsUpTo}

-- this text was read, and the reading represents it
pub record GivesText (source : Stream) (reading : Reading) : Type 0 where
  pub text : List ℕ
  pub read : ReadsUpTo text_limit source text
  pub known : Stands reading text
