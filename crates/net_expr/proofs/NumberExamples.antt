-- Numbers. Values of trees, worked out.
use Rattle.std.specs.Prelude.{◌≡◌, true, [], Ok, Err, pos, codes}
use Rattle.std.proofs.Common.{refl}
use Rattle.net_lex.specs.NumeralFront.{mantissa_at, power_at, numeral_at}
use Rattle.net_lex.specs.Significands.{whole_value}
use Rattle.net_sets.specs.declared.member.Member.TheVariants.{Number}
use Rattle.net_tree.specs.declared.operator.OperatorWords.TheVariants as operator
use Rattle.net_tree.specs.Role.{role_of, marks, keys}
use Rattle.net_tree.specs.Spans.{span_of, span_between, braces_span}
use Rattle.net_tree.specs.Tree.{leaf, parens, braced, signed, reduced, chain, choice, none, link, absent, part, empty, filled}
use Rattle.net_base.specs.declared.diagnostic.Language.TheVariants as languages
use Rattle.net_base.specs.declared.error_code.ErrorCode.TheVariants as error_codes
use Rattle.net_base.specs.declared.diagnostic.Detail.TheVariants.{Nothing}
use Rattle.net_expr.specs.declared.value.Value.TheVariants.{One, Truth}
use Rattle.net_expr.specs.Limits.{is_small}
use Rattle.net_tree.specs.Operations.{operations, operation, reduction, is_minus}
use Rattle.net_tree.specs.Numerals.{number_in}
use Rattle.net_expr.specs.Values.{value}
use Rattle.net_expr.proofs.Trees.{name, number, key, mark}

-- 2 + 3 * 4
fourteen : value [] [] (chain 2 (leaf (number (codes "2") 0 1)) (link (operator.One (mark (codes "+") 2 3)) (chain 1 (leaf (number (codes "3") 4 5)) (link (operator.One (mark (codes "*") 6 7)) (leaf (number (codes "4") 8 9)) none)) none)) ≡ Ok (One (Number (pos 14)))
unfolding role_of marks keys operations operation reduction is_minus is_small number_in numeral_at mantissa_at power_at whole_value span_of span_between braces_span
fourteen = refl

-- 10 - 3 - 2
from_the_left : value [] [] (chain 2 (leaf (number (codes "10") 0 2)) (link (operator.One (mark (codes "-") 3 4)) (leaf (number (codes "3") 5 6)) (link (operator.One (mark (codes "-") 7 8)) (leaf (number (codes "2") 9 10)) none))) ≡ Ok (One (Number (pos 5)))
unfolding role_of marks keys operations operation reduction is_minus is_small number_in numeral_at mantissa_at power_at whole_value span_of span_between braces_span
from_the_left = refl

-- - (-5) + +2
signs : value [] [] (chain 2 (signed (mark (codes "-") 0 1) (parens (mark (codes "(") 2 3) (signed (mark (codes "-") 3 4) (leaf (number (codes "5") 4 5))) (mark (codes ")") 5 6))) (link (operator.One (mark (codes "+") 7 8)) (signed (mark (codes "+") 9 10) (leaf (number (codes "2") 10 11))) none)) ≡ Ok (One (Number (pos 7)))
unfolding role_of marks keys operations operation reduction is_minus is_small number_in numeral_at mantissa_at power_at whole_value span_of span_between braces_span
signs = refl

-- sum {i in 1..3} i * 2 + 1 = 13    a reduction takes its whole product, and no more
thirteen : value [] [] (chain 7 (chain 2 (reduced (key (codes "sum") 0 3) (filled (mark (codes "{") 4 5) (chain 7 (leaf (name (codes "i") 5 6)) (link (operator.One (key (codes "in") 7 9)) (chain 3 (leaf (number (codes "1") 10 11)) (link (operator.One (mark (codes "..") 11 13)) (leaf (number (codes "3") 13 14)) none)) none)) none absent (mark (codes "}") 14 15)) (chain 1 (leaf (name (codes "i") 16 17)) (link (operator.One (mark (codes "*") 18 19)) (leaf (number (codes "2") 20 21)) none))) (link (operator.One (mark (codes "+") 22 23)) (leaf (number (codes "1") 24 25)) none)) (link (operator.One (mark (codes "=") 26 27)) (leaf (number (codes "13") 28 30)) none)) ≡ Ok (Truth true)
unfolding role_of marks keys operations operation reduction is_minus is_small number_in numeral_at mantissa_at power_at whole_value span_of span_between braces_span
thirteen = refl

-- 17 div 5 * 10 + 17 mod 5
divided : value [] [] (chain 2 (chain 1 (leaf (number (codes "17") 0 2)) (link (operator.One (key (codes "div") 3 6)) (leaf (number (codes "5") 7 8)) (link (operator.One (mark (codes "*") 9 10)) (leaf (number (codes "10") 11 13)) none))) (link (operator.One (mark (codes "+") 14 15)) (chain 1 (leaf (number (codes "17") 16 18)) (link (operator.One (key (codes "mod") 19 22)) (leaf (number (codes "5") 23 24)) none)) none)) ≡ Ok (One (Number (pos 32)))
unfolding role_of marks keys operations operation reduction is_minus is_small number_in numeral_at mantissa_at power_at whole_value span_of span_between braces_span
divided = refl

-- 7 div 0 = 1
by_nothing : value [] [] (chain 7 (chain 1 (leaf (number (codes "7") 0 1)) (link (operator.One (key (codes "div") 2 5)) (leaf (number (codes "0") 6 7)) none)) (link (operator.One (mark (codes "=") 8 9)) (leaf (number (codes "1") 10 11)) none)) ≡ Err (record { error_code = error_codes.DivMod; text = languages.Model; at = record { start = 0; end = 7 }; detail = Nothing })
unfolding role_of marks keys operations operation reduction is_minus is_small number_in numeral_at mantissa_at power_at whole_value span_of span_between braces_span
by_nothing = refl

-- (-7) mod 2
negative_divided : value [] [] (chain 1 (parens (mark (codes "(") 0 1) (signed (mark (codes "-") 1 2) (leaf (number (codes "7") 2 3))) (mark (codes ")") 3 4)) (link (operator.One (key (codes "mod") 5 8)) (leaf (number (codes "2") 9 10)) none)) ≡ Err (record { error_code = error_codes.DivMod; text = languages.Model; at = record { start = 0; end = 10 }; detail = Nothing })
unfolding role_of marks keys operations operation reduction is_minus is_small number_in numeral_at mantissa_at power_at whole_value span_of span_between braces_span
negative_divided = refl

-- 1000000000000 + 1 > 0
past_the_limit : value [] [] (chain 7 (chain 2 (leaf (number (codes "1000000000000") 0 13)) (link (operator.One (mark (codes "+") 14 15)) (leaf (number (codes "1") 16 17)) none)) (link (operator.One (mark (codes ">") 18 19)) (leaf (number (codes "0") 20 21)) none)) ≡ Err (record { error_code = error_codes.ValueTooLarge; text = languages.Model; at = record { start = 0; end = 17 }; detail = Nothing })
unfolding role_of marks keys operations operation reduction is_minus is_small number_in numeral_at mantissa_at power_at whole_value span_of span_between braces_span
past_the_limit = refl

-- 1000000000000 + 1 - 1 + 0 * 1    each result of a chain is tested, at the whole chain
at_the_limit : value [] [] (chain 2 (leaf (number (codes "1000000000000") 0 13)) (link (operator.One (mark (codes "+") 14 15)) (leaf (number (codes "1") 16 17)) (link (operator.One (mark (codes "-") 18 19)) (leaf (number (codes "1") 20 21)) (link (operator.One (mark (codes "+") 22 23)) (chain 1 (leaf (number (codes "0") 24 25)) (link (operator.One (mark (codes "*") 26 27)) (leaf (number (codes "1") 28 29)) none)) none)))) ≡ Err (record { error_code = error_codes.ValueTooLarge; text = languages.Model; at = record { start = 0; end = 29 }; detail = Nothing })
unfolding role_of marks keys operations operation reduction is_minus is_small number_in numeral_at mantissa_at power_at whole_value span_of span_between braces_span
at_the_limit = refl

-- sum {i in 1..3} (if i = 1 then 1000000000000 else if i = 2 then 1 else -1)    a sum is tested once, as a total
tested_as_a_total : value [] [] (reduced (key (codes "sum") 0 3) (filled (mark (codes "{") 4 5) (chain 7 (leaf (name (codes "i") 5 6)) (link (operator.One (key (codes "in") 7 9)) (chain 3 (leaf (number (codes "1") 10 11)) (link (operator.One (mark (codes "..") 11 13)) (leaf (number (codes "3") 13 14)) none)) none)) none absent (mark (codes "}") 14 15)) (parens (mark (codes "(") 16 17) (choice (key (codes "if") 17 19) (chain 7 (leaf (name (codes "i") 20 21)) (link (operator.One (mark (codes "=") 22 23)) (leaf (number (codes "1") 24 25)) none)) (key (codes "then") 26 30) (leaf (number (codes "1000000000000") 31 44)) (part (key (codes "else") 45 49) (choice (key (codes "if") 50 52) (chain 7 (leaf (name (codes "i") 53 54)) (link (operator.One (mark (codes "=") 55 56)) (leaf (number (codes "2") 57 58)) none)) (key (codes "then") 59 63) (leaf (number (codes "1") 64 65)) (part (key (codes "else") 66 70) (signed (mark (codes "-") 71 72) (leaf (number (codes "1") 72 73))))))) (mark (codes ")") 73 74))) ≡ Ok (One (Number (pos 1000000000000)))
unfolding role_of marks keys operations operation reduction is_minus is_small number_in numeral_at mantissa_at power_at whole_value span_of span_between braces_span
tested_as_a_total = refl

-- 2.50e1
decimal : value [] [] (leaf (number (codes "2.50e1") 0 6)) ≡ Ok (One (Number (pos 25)))
unfolding role_of marks keys operations operation reduction is_minus is_small number_in numeral_at mantissa_at power_at whole_value span_of span_between braces_span
decimal = refl

-- sum {i in {}} 7 div 0
empty_sum : value [] [] (reduced (key (codes "sum") 0 3) (filled (mark (codes "{") 4 5) (chain 7 (leaf (name (codes "i") 5 6)) (link (operator.One (key (codes "in") 7 9)) (braced (empty (mark (codes "{") 10 11) absent (mark (codes "}") 11 12))) none)) none absent (mark (codes "}") 12 13)) (chain 1 (leaf (number (codes "7") 14 15)) (link (operator.One (key (codes "div") 16 19)) (leaf (number (codes "0") 20 21)) none))) ≡ Ok (One (Number (pos 0)))
unfolding role_of marks keys operations operation reduction is_minus is_small number_in numeral_at mantissa_at power_at whole_value span_of span_between braces_span
empty_sum = refl

-- min {i in {3,1,2}} i * i
least : value [] [] (reduced (key (codes "min") 0 3) (filled (mark (codes "{") 4 5) (chain 7 (leaf (name (codes "i") 5 6)) (link (operator.One (key (codes "in") 7 9)) (braced (filled (mark (codes "{") 10 11) (leaf (number (codes "3") 11 12)) (link (operator.One (mark (codes ",") 12 13)) (leaf (number (codes "1") 13 14)) (link (operator.One (mark (codes ",") 14 15)) (leaf (number (codes "2") 15 16)) none)) absent (mark (codes "}") 16 17))) none)) none absent (mark (codes "}") 17 18)) (chain 1 (leaf (name (codes "i") 19 20)) (link (operator.One (mark (codes "*") 21 22)) (leaf (name (codes "i") 23 24)) none))) ≡ Ok (One (Number (pos 1)))
unfolding role_of marks keys operations operation reduction is_minus is_small number_in numeral_at mantissa_at power_at whole_value span_of span_between braces_span
least = refl

-- max {i in {3,1,2}} i * i
greatest : value [] [] (reduced (key (codes "max") 0 3) (filled (mark (codes "{") 4 5) (chain 7 (leaf (name (codes "i") 5 6)) (link (operator.One (key (codes "in") 7 9)) (braced (filled (mark (codes "{") 10 11) (leaf (number (codes "3") 11 12)) (link (operator.One (mark (codes ",") 12 13)) (leaf (number (codes "1") 13 14)) (link (operator.One (mark (codes ",") 14 15)) (leaf (number (codes "2") 15 16)) none)) absent (mark (codes "}") 16 17))) none)) none absent (mark (codes "}") 17 18)) (chain 1 (leaf (name (codes "i") 19 20)) (link (operator.One (mark (codes "*") 21 22)) (leaf (name (codes "i") 23 24)) none))) ≡ Ok (One (Number (pos 9)))
unfolding role_of marks keys operations operation reduction is_minus is_small number_in numeral_at mantissa_at power_at whole_value span_of span_between braces_span
greatest = refl

-- 1 + min {i in 1..0} i
least_of_none : value [] [] (chain 2 (leaf (number (codes "1") 0 1)) (link (operator.One (mark (codes "+") 2 3)) (reduced (key (codes "min") 4 7) (filled (mark (codes "{") 8 9) (chain 7 (leaf (name (codes "i") 9 10)) (link (operator.One (key (codes "in") 11 13)) (chain 3 (leaf (number (codes "1") 14 15)) (link (operator.One (mark (codes "..") 15 17)) (leaf (number (codes "0") 17 18)) none)) none)) none absent (mark (codes "}") 18 19)) (leaf (name (codes "i") 20 21))) none)) ≡ Err (record { error_code = error_codes.NoValue; text = languages.Model; at = record { start = 4; end = 21 }; detail = Nothing })
unfolding role_of marks keys operations operation reduction is_minus is_small number_in numeral_at mantissa_at power_at whole_value span_of span_between braces_span
least_of_none = refl
