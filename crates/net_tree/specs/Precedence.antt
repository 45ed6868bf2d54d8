-- Precedence levels of trees: a greater number binds less tightly.
use Rattle.std.specs.Prelude.{ℕ, zero, suc}

-- atoms, and signed operands
abbrev pub of_one : ℕ
of_one = 0

-- operands joined by commas: a list has no precedence of its own
abbrev pub of_comma : ℕ
of_comma = 0

abbrev pub of_reduction : ℕ
of_reduction = 1

-- `*`, `div`, `mod`
abbrev pub of_product : ℕ
of_product = 2

-- `+`, `-`
abbrev pub of_sum : ℕ
of_sum = 3

-- `..`
abbrev pub of_range : ℕ
of_range = 4

abbrev pub of_cross : ℕ
of_cross = 5

abbrev pub of_inter : ℕ
of_inter = 6

-- `union`, `diff`, `symdiff`
abbrev pub of_union : ℕ
of_union = 7

-- comparisons: `=`, `in` and the others
abbrev pub of_relation : ℕ
of_relation = 8

abbrev pub of_and : ℕ
of_and = 9

abbrev pub of_or : ℕ
of_or = 10

abbrev pub of_if : ℕ
of_if = 11

abbrev pub of_net_term : ℕ
of_net_term = 12

-- the maximum precedence of the operands of an operator with this precedence
abbrev pub of_operands : ℕ → ℕ
of_operands zero = 0
of_operands (suc m) = m
