-- The state of the reader of a DIMACS file that arrives in pieces.
use Rattle.std.specs.Prelude.{◌≡◌, ℕ, ◌≤◌, ◌-◌, ◌^◌, min, List, ◌++◌, length, Result}
use Rattle.std.specs.Str.Lines.{lines}
use Rattle.net_dimacs.specs.declared.problem_fault.Rejection.{Rejection}
use Rattle.net_dimacs.specs.declared.line_scan.Scan.{Scan}
use Rattle.net_dimacs.specs.declared.reading.Reading.{Reading}
use Rattle.net_dimacs.specs.Limits.{text_limit}
use Rattle.net_dimacs.specs.Reading.{Start, Numbers, read_lines}
use Rattle.net_dimacs.specs.Drafts.{state_of}

-- the result of reading these lines next
abbrev pub reads : Scan → List (List ℕ) → Result Numbers Rejection
reads scan more = read_lines scan.line (state_of scan.progress) more

-- with any continuation, both prefixes lead to the same result
abbrev pub IsReadAlike : List ℕ → List ℕ → Type 0
IsReadAlike front line = (scan : Scan) (more : List ℕ) → reads scan (lines (front ++ more)) ≡ reads scan (lines (line ++ more))

-- the state after reading `text`: its length is counted, and if it is within the limit, any
-- continuation gives the same result as after `text` itself
pub record Stands (reading : Reading) (text : List ℕ) : Type 0 where
  pub counted : reading.length ≡ min (length text) (2 ^ 64 - 1)
  pub scanned : length text ≤ text_limit → (more : List ℕ) → reads reading.scan (lines (reading.pending.items ++ more)) ≡ read_lines 1 Start (lines (text ++ more))
