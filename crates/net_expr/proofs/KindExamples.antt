-- Kinds: operands are evaluated first, from the left, and then their kinds are tested; a chain is folded from the left. Values of trees, worked out.
use Rattle.std.specs.Prelude.{◌≡◌, true, false, [], Ok, Err, codes}
use Rattle.std.proofs.Common.{refl}
use Rattle.net_lex.specs.NumeralFront.{mantissa_at, power_at, numeral_at}
use Rattle.net_lex.specs.Significands.{whole_value}
use Rattle.net_tree.specs.declared.operator.OperatorWords.TheVariants as operator
use Rattle.net_tree.specs.Role.{role_of, marks, keys}
use Rattle.net_tree.specs.Spans.{span_of, span_between, braces_span}
use Rattle.net_tree.specs.Tree.{leaf, parens, tuple, braced, signed, chain, none, link, absent, filled}
use Rattle.net_base.specs.declared.diagnostic.Language.TheVariants as languages
use Rattle.net_base.specs.declared.error_code.ErrorCode.TheVariants as error_codes
use Rattle.net_base.specs.declared.diagnostic.Detail.TheVariants.{Nothing}
use Rattle.net_expr.specs.declared.value.Value.TheVariants.{Truth}
use Rattle.net_expr.specs.Limits.{is_small}
use Rattle.net_tree.specs.Operations.{operations, operation, reduction, is_minus}
use Rattle.net_tree.specs.Numerals.{number_in}
use Rattle.net_expr.specs.Values.{value}
use Rattle.net_expr.proofs.Trees.{number, string, key, mark}

-- 'a' < 1
text_compared : value [] [] (chain 7 (leaf (string (codes "'a'") 0 3)) (link (operator.One (mark (codes "<") 4 5)) (leaf (number (codes "1") 6 7)) none)) ≡ Err (record { error_code = error_codes.KindMismatch; text = languages.Model; at = record { start = 0; end = 7 }; detail = Nothing })
unfolding role_of marks keys operations operation reduction is_minus is_small number_in numeral_at mantissa_at power_at whole_value span_of span_between braces_span
text_compared = refl

-- 'a' + 7 div 0 = 1
right_side_first : value [] [] (chain 7 (chain 2 (leaf (string (codes "'a'") 0 3)) (link (operator.One (mark (codes "+") 4 5)) (chain 1 (leaf (number (codes "7") 6 7)) (link (operator.One (key (codes "div") 8 11)) (leaf (number (codes "0") 12 13)) none)) none)) (link (operator.One (mark (codes "=") 14 15)) (leaf (number (codes "1") 16 17)) none)) ≡ Err (record { error_code = error_codes.DivMod; text = languages.Model; at = record { start = 6; end = 13 }; detail = Nothing })
unfolding role_of marks keys operations operation reduction is_minus is_small number_in numeral_at mantissa_at power_at whole_value span_of span_between braces_span
right_side_first = refl

-- 'a' + 1 + 7 div 0
chain_from_the_left : value [] [] (chain 2 (leaf (string (codes "'a'") 0 3)) (link (operator.One (mark (codes "+") 4 5)) (leaf (number (codes "1") 6 7)) (link (operator.One (mark (codes "+") 8 9)) (chain 1 (leaf (number (codes "7") 10 11)) (link (operator.One (key (codes "div") 12 15)) (leaf (number (codes "0") 16 17)) none)) none))) ≡ Err (record { error_code = error_codes.KindMismatch; text = languages.Model; at = record { start = 0; end = 17 }; detail = Nothing })
unfolding role_of marks keys operations operation reduction is_minus is_small number_in numeral_at mantissa_at power_at whole_value span_of span_between braces_span
chain_from_the_left = refl

-- (1,2) = (1,2)
tuples_compared : value [] [] (chain 7 (tuple (mark (codes "(") 0 1) (leaf (number (codes "1") 1 2)) (link (operator.One (mark (codes ",") 2 3)) (leaf (number (codes "2") 3 4)) none) (mark (codes ")") 4 5)) (link (operator.One (mark (codes "=") 6 7)) (tuple (mark (codes "(") 8 9) (leaf (number (codes "1") 9 10)) (link (operator.One (mark (codes ",") 10 11)) (leaf (number (codes "2") 11 12)) none) (mark (codes ")") 12 13)) none)) ≡ Err (record { error_code = error_codes.KindMismatch; text = languages.Model; at = record { start = 0; end = 13 }; detail = Nothing })
unfolding role_of marks keys operations operation reduction is_minus is_small number_in numeral_at mantissa_at power_at whole_value span_of span_between braces_span
tuples_compared = refl

-- (1,((2,3)))
tuple_in_tuple : value [] [] (tuple (mark (codes "(") 0 1) (leaf (number (codes "1") 1 2)) (link (operator.One (mark (codes ",") 2 3)) (parens (mark (codes "(") 3 4) (tuple (mark (codes "(") 4 5) (leaf (number (codes "2") 5 6)) (link (operator.One (mark (codes ",") 6 7)) (leaf (number (codes "3") 7 8)) none) (mark (codes ")") 8 9)) (mark (codes ")") 9 10)) none) (mark (codes ")") 10 11)) ≡ Err (record { error_code = error_codes.KindMismatch; text = languages.Model; at = record { start = 0; end = 11 }; detail = Nothing })
unfolding role_of marks keys operations operation reduction is_minus is_small number_in numeral_at mantissa_at power_at whole_value span_of span_between braces_span
tuple_in_tuple = refl

-- (1,2,3,4,5)
five_members : value [] [] (tuple (mark (codes "(") 0 1) (leaf (number (codes "1") 1 2)) (link (operator.One (mark (codes ",") 2 3)) (leaf (number (codes "2") 3 4)) (link (operator.One (mark (codes ",") 4 5)) (leaf (number (codes "3") 5 6)) (link (operator.One (mark (codes ",") 6 7)) (leaf (number (codes "4") 7 8)) (link (operator.One (mark (codes ",") 8 9)) (leaf (number (codes "5") 9 10)) none)))) (mark (codes ")") 10 11)) ≡ Err (record { error_code = error_codes.Arity; text = languages.Model; at = record { start = 0; end = 11 }; detail = Nothing })
unfolding role_of marks keys operations operation reduction is_minus is_small number_in numeral_at mantissa_at power_at whole_value span_of span_between braces_span
five_members = refl

-- 1 - - 'a'
text_negated : value [] [] (chain 2 (leaf (number (codes "1") 0 1)) (link (operator.One (mark (codes "-") 2 3)) (signed (mark (codes "-") 4 5) (leaf (string (codes "'a'") 6 9))) none)) ≡ Err (record { error_code = error_codes.KindMismatch; text = languages.Model; at = record { start = 4; end = 9 }; detail = Nothing })
unfolding role_of marks keys operations operation reduction is_minus is_small number_in numeral_at mantissa_at power_at whole_value span_of span_between braces_span
text_negated = refl

-- '5' = 5
text_is_no_number : value [] [] (chain 7 (leaf (string (codes "'5'") 0 3)) (link (operator.One (mark (codes "=") 4 5)) (leaf (number (codes "5") 6 7)) none)) ≡ Ok (Truth false)
unfolding role_of marks keys operations operation reduction is_minus is_small number_in numeral_at mantissa_at power_at whole_value span_of span_between braces_span
text_is_no_number = refl

-- 'it''s' = 'it''s'
doubled_delimiter : value [] [] (chain 7 (leaf (string (codes "'it''s'") 0 7)) (link (operator.One (mark (codes "=") 8 9)) (leaf (string (codes "'it''s'") 10 17)) none)) ≡ Ok (Truth true)
unfolding role_of marks keys operations operation reduction is_minus is_small number_in numeral_at mantissa_at power_at whole_value span_of span_between braces_span
doubled_delimiter = refl

-- {1} + 1
set_for_a_number : value [] [] (chain 2 (braced (filled (mark (codes "{") 0 1) (leaf (number (codes "1") 1 2)) none absent (mark (codes "}") 2 3))) (link (operator.One (mark (codes "+") 4 5)) (leaf (number (codes "1") 6 7)) none)) ≡ Err (record { error_code = error_codes.KindMismatch; text = languages.Model; at = record { start = 0; end = 7 }; detail = Nothing })
unfolding role_of marks keys operations operation reduction is_minus is_small number_in numeral_at mantissa_at power_at whole_value span_of span_between braces_span
set_for_a_number = refl

-- 1 .. {2}
unequal_kinds : value [] [] (chain 3 (leaf (number (codes "1") 0 1)) (link (operator.One (mark (codes "..") 2 4)) (braced (filled (mark (codes "{") 5 6) (leaf (number (codes "2") 6 7)) none absent (mark (codes "}") 7 8))) none)) ≡ Err (record { error_code = error_codes.KindMismatch; text = languages.Model; at = record { start = 0; end = 8 }; detail = Nothing })
unfolding role_of marks keys operations operation reduction is_minus is_small number_in numeral_at mantissa_at power_at whole_value span_of span_between braces_span
unequal_kinds = refl
