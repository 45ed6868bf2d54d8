-- Line endings: the bytes LF and CR.
use Rattle.std.specs.Prelude.{◌≡◌, ℕ, Bool, true, not, ◌==◌, ◌||◌, List}
use Rattle.std.specs.List.{list_all}

-- LF or CR
abbrev pub ends_line : ℕ → Bool
ends_line byte = byte == 10 || byte == 13

abbrev pub HasNoLineEnd : List ℕ → Type 0
HasNoLineEnd text = list_all (λ byte. not (ends_line byte)) text ≡ true
