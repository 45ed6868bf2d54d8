-- How many numbers a range lists.
use Rattle.std.specs.Prelude.{◌≡◌, ℕ, zero, suc, ◌+ℤ◌, length, nat_le, if◌then◌else◌, ℤ, Some, Ok}
use Rattle.std.proofs.Common.{refl, sym, ap, ◌∙◌}
use Rattle.net_base.specs.declared.diagnostic.Span.{Span}
use Rattle.net_sets.specs.Limits.{tuples_limit}
use Rattle.net_sets.specs.Ranges.{range, range_size, singles, numbers_by}
use Rattle.net_base.specs.declared.error_code.ErrorCode.TheVariants.{TooMany}
use Rattle.net_expr.specs.declared.value.Value.TheVariants.{Many}
use Rattle.net_expr.specs.Numbers.{range_within}
use Rattle.net_expr.specs.Sets.{within_size}
use Rattle.net_base.specs.Outcomes.{rejected}

many_numbers : (a c : ℤ) (n : ℕ) → length (singles (numbers_by a c n)) ≡ n
many_numbers a c zero = refl
many_numbers a c (suc n) = ap suc (many_numbers (a +ℤ c) c n)

pub range_length : (a b c : ℤ) → length (singles (range a b c)) ≡ range_size a b c
range_length a b c = many_numbers a c (range_size a b c)

-- the numbers of a range are a set of one component; a', b', c' are a, b, c as the machine keeps them
pub range_made : (at : Span) (a b c a' b' c' : ℤ) → a' ≡ a → b' ≡ b → c' ≡ c → range_within at a b c ≡ within_size at 1 (singles (range a' b' c'))
range_made at a b c a' b' c' ea eb ec =
    ap (λ n. if nat_le n tuples_limit then Ok (Many (Some 1) (singles (range a b c))) else rejected TooMany at) (sym (range_length a b c))
    ∙ ap (λ x. within_size at 1 (singles (range x b c))) (sym ea) ∙ ap (λ x. within_size at 1 (singles (range a' x c))) (sym eb) ∙ ap (λ x. within_size at 1 (singles (range a' b' x))) (sym ec)
