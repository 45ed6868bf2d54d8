-- Bytes of a text by position, and the ASCII character classes of AMPL's lexical rules (AMPL book,
-- section A.1).
use Rattle.std.specs.Prelude.{ℕ, Bool, ◌==◌, ◌||◌, List, take, drop, slice_index, if◌then◌else◌}
use Rattle.std.specs.List.{prefix_len}
use Rattle.std.specs.Char.{is_ascii_digit}

-- the first byte (`first`) and the second byte (`second`); 0 past the end
abbrev pub first : List ℕ → ℕ
first text = slice_index text 0

abbrev pub second : List ℕ → ℕ
second text = slice_index text 1

abbrev pub point : ℕ
point = 46

abbrev pub plus : ℕ
plus = 43

abbrev pub minus : ℕ
minus = 45

-- e, E, d or D: introduces an exponent
abbrev pub marks_power : ℕ → Bool
marks_power c = ((c == 101 || c == 69) || c == 100) || c == 68

abbrev pub is_sign : ℕ → Bool
is_sign c = c == plus || c == minus

-- the leading digits, and the text after them
abbrev pub digits_at : List ℕ → List ℕ × List ℕ
digits_at text = (take (prefix_len is_ascii_digit text) text, drop (prefix_len is_ascii_digit text) text)

abbrev pub after_sign : List ℕ → List ℕ
after_sign text = if is_sign (first text) then drop 1 text else text
