-- Lines and columns as editors count them: a line feed ends a line (POSIX, "Line"), and both are
-- counted from 1.
use Rattle.std.specs.Prelude.{ℕ, ◌+◌, ◌==◌, not, List, count_by}
use Rattle.std.specs.List.{suffix_len}

abbrev pub line_feed : ℕ
line_feed = 10

-- the number of line feeds before the position, plus one
abbrev pub line_of : List ℕ → ℕ
line_of before = count_by (λ c. c == line_feed) before + 1

-- the number of bytes between the last line feed and the position, plus one
abbrev pub column_of : List ℕ → ℕ
column_of before = suffix_len (λ c. not (c == line_feed)) before + 1
