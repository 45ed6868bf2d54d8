use Rattle.std.proofs.Common.{◌≡◌, ℕ, List, length, map, fold}
use Rattle.std.specs.Option.{option_map}
use Rattle.net_dimacs.specs.Lines.{fields_of, number_of}
use Rattle.net_dimacs.specs.Claims.{integer_of}
use Rattle.net_dimacs.specs.Numerals.{with_integer}
use Rattle.net_dimacs.specs.declared.integer.Numbers.TheVariants as numbers
use Rattle.net_dimacs.proofs.integer.numbers_of.Given as goal

abbrev pub invariant-loop-field : goal.invariant-loop-field
invariant-loop-field l =
    fold with_integer l.numbers (map (λ (f : List ℕ). option_map integer_of (number_of f)) (fields_of l.rest))
    ≡ fold with_integer numbers.Zero (map (λ (f : List ℕ). option_map integer_of (number_of f)) (fields_of l.fn.bytes))

abbrev pub decreases-loop-field : goal.decreases-loop-field
decreases-loop-field l = length l.rest
