use Rattle.std.proofs.Common.{◌≡◌, ◌-◌, ◌^◌, min, Some, None, ap, sym, ◌∙◌, arith}
use Rattle.std.specs.Option.{option_map}
use Rattle.net_dimacs.specs.Lines.{natural_of}
use Rattle.net_dimacs.proofs.Sizes.{size_is, short_is_whole, no_number}
use Rattle.net_dimacs.proofs.integer.size_of.Goals as goal

pub returns-in_err-size : goal.returns-in_err-size
returns-in_err-size c =
    let digits = c.args.digits.now in
    let none : option_map (λ n. min n (2 ^ 64 - 1)) (natural_of digits) ≡ None = sym (size_is (2 ^ 64 - 1) digits) ∙ sym c.short_size_of.ensures ∙ c.in_err-size.was in
    let result : c.from_residual.result ≡ None = c.from_residual.ensures in
    result ∙ no_number (natural_of digits) (2 ^ 64 - 1) (2 ^ 128 - 1) none

pub returns-then-size-lt18446744073709551615 : goal.returns-then-size-lt18446744073709551615
returns-then-size-lt18446744073709551615 c =
    let digits = c.args.digits.now in
    let some : option_map (λ n. min n (2 ^ 64 - 1)) (natural_of digits) ≡ Some c.in_ok-size.size = sym (size_is (2 ^ 64 - 1) digits) ∙ sym c.short_size_of.ensures ∙ c.in_ok-size.was in
    ap Some c.from.ensures ∙ short_is_whole (natural_of digits) (2 ^ 64 - 1) (2 ^ 128 - 1) c.in_ok-size.size (omega arith) some (omega arith)

pub returns : goal.returns
returns c = c.long_size_of.ensures ∙ size_is (2 ^ 128 - 1) c.args.digits.now
