use Rattle.std.proofs.Common.{◌≡◌, [], List, ℕ, map, fold, sym, ap, ◌∙◌}
use Rattle.std.specs.Option.{option_map}
use Rattle.net_dimacs.specs.Lines.{fields_of, number_of}
use Rattle.net_dimacs.specs.Claims.{integer_of}
use Rattle.net_dimacs.specs.Numerals.{with_integer}
use Rattle.net_dimacs.proofs.Sizes.{numbers_are}
use Rattle.net_dimacs.proofs.integer.numbers_of.Goals as goal

pub returns : goal.returns
returns c =
    let none : fields_of c.loop-field.rest.now ≡ [] = c.in_default.ensures.parts in
    ap (λ (fs : List (List ℕ)). fold with_integer c.loop-field.numbers (map (λ (f : List ℕ). option_map integer_of (number_of f)) fs)) (sym none)
    ∙ c.loop-field.invariant
    ∙ numbers_are (fields_of c.args.bytes.now)
