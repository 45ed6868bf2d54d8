-- The size limit that netflow sets for a DIMACS file, problem or certificate, and the limits of the
-- buffer for an incomplete line.
use Rattle.std.specs.Prelude.{ℕ, ◌*◌}

-- 64 MiB
abbrev pub text_limit : ℕ
text_limit = 64 * 1024 * 1024

-- buffer for an incomplete line: seven shortened fields, a space after each, and one more byte
abbrev pub open_line_limit : ℕ
open_line_limit = 155

-- length of a shortened field: a sign and a number of 64 bits
abbrev pub open_field_limit : ℕ
open_field_limit = 21
