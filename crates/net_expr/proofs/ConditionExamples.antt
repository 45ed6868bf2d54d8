-- Conditions. Values of trees, worked out.
use Rattle.std.specs.Prelude.{◌≡◌, true, false, [], ◌∷◌, Some, Ok, Err, pos, codes}
use Rattle.std.proofs.Common.{refl}
use Rattle.net_lex.specs.NumeralFront.{mantissa_at, power_at, numeral_at}
use Rattle.net_lex.specs.Significands.{whole_value}
use Rattle.net_sets.specs.declared.member.Member.TheVariants.{Number}
use Rattle.net_tree.specs.declared.operator.OperatorWords.TheVariants as operator
use Rattle.net_tree.specs.Role.{role_of, marks, keys}
use Rattle.net_tree.specs.Spans.{span_of, span_between, braces_span}
use Rattle.net_tree.specs.Tree.{leaf, parens, negated, braced, chain, choice, none, link, absent, part, filled}
use Rattle.net_base.specs.declared.diagnostic.Language.TheVariants as languages
use Rattle.net_base.specs.declared.error_code.ErrorCode.TheVariants as error_codes
use Rattle.net_base.specs.declared.diagnostic.Detail.TheVariants.{Nothing}
use Rattle.net_expr.specs.declared.value.Value.TheVariants.{One, Many, Truth}
use Rattle.net_expr.specs.Limits.{is_small}
use Rattle.net_tree.specs.Operations.{operations, operation, reduction, is_minus}
use Rattle.net_tree.specs.Numerals.{number_in}
use Rattle.net_expr.specs.Values.{value}
use Rattle.net_expr.proofs.Trees.{number, key, mark}

-- 1 = 2 and 7 div 0 = 1    the right side is evaluated only where the left does not decide
false_and : value [] [] (chain 8 (chain 7 (leaf (number (codes "1") 0 1)) (link (operator.One (mark (codes "=") 2 3)) (leaf (number (codes "2") 4 5)) none)) (link (operator.One (key (codes "and") 6 9)) (chain 7 (chain 1 (leaf (number (codes "7") 10 11)) (link (operator.One (key (codes "div") 12 15)) (leaf (number (codes "0") 16 17)) none)) (link (operator.One (mark (codes "=") 18 19)) (leaf (number (codes "1") 20 21)) none)) none)) ≡ Ok (Truth false)
unfolding role_of marks keys operations operation reduction is_minus is_small number_in numeral_at mantissa_at power_at whole_value span_of span_between braces_span
false_and = refl

-- 1 = 1 or 7 div 0 = 1 or 1
true_or : value [] [] (chain 9 (chain 7 (leaf (number (codes "1") 0 1)) (link (operator.One (mark (codes "=") 2 3)) (leaf (number (codes "1") 4 5)) none)) (link (operator.One (key (codes "or") 6 8)) (chain 7 (chain 1 (leaf (number (codes "7") 9 10)) (link (operator.One (key (codes "div") 11 14)) (leaf (number (codes "0") 15 16)) none)) (link (operator.One (mark (codes "=") 17 18)) (leaf (number (codes "1") 19 20)) none)) (link (operator.One (key (codes "or") 21 23)) (leaf (number (codes "1") 24 25)) none))) ≡ Ok (Truth true)
unfolding role_of marks keys operations operation reduction is_minus is_small number_in numeral_at mantissa_at power_at whole_value span_of span_between braces_span
true_or = refl

-- 1 = 1 and 7 div 0 = 1
true_and : value [] [] (chain 8 (chain 7 (leaf (number (codes "1") 0 1)) (link (operator.One (mark (codes "=") 2 3)) (leaf (number (codes "1") 4 5)) none)) (link (operator.One (key (codes "and") 6 9)) (chain 7 (chain 1 (leaf (number (codes "7") 10 11)) (link (operator.One (key (codes "div") 12 15)) (leaf (number (codes "0") 16 17)) none)) (link (operator.One (mark (codes "=") 18 19)) (leaf (number (codes "1") 20 21)) none)) none)) ≡ Err (record { error_code = error_codes.DivMod; text = languages.Model; at = record { start = 10; end = 17 }; detail = Nothing })
unfolding role_of marks keys operations operation reduction is_minus is_small number_in numeral_at mantissa_at power_at whole_value span_of span_between braces_span
true_and = refl

-- 1 and 7 div 0 = 1
number_and : value [] [] (chain 8 (leaf (number (codes "1") 0 1)) (link (operator.One (key (codes "and") 2 5)) (chain 7 (chain 1 (leaf (number (codes "7") 6 7)) (link (operator.One (key (codes "div") 8 11)) (leaf (number (codes "0") 12 13)) none)) (link (operator.One (mark (codes "=") 14 15)) (leaf (number (codes "1") 16 17)) none)) none)) ≡ Err (record { error_code = error_codes.KindMismatch; text = languages.Model; at = record { start = 0; end = 17 }; detail = Nothing })
unfolding role_of marks keys operations operation reduction is_minus is_small number_in numeral_at mantissa_at power_at whole_value span_of span_between braces_span
number_and = refl

-- 1 = 1 and 2
and_number : value [] [] (chain 8 (chain 7 (leaf (number (codes "1") 0 1)) (link (operator.One (mark (codes "=") 2 3)) (leaf (number (codes "1") 4 5)) none)) (link (operator.One (key (codes "and") 6 9)) (leaf (number (codes "2") 10 11)) none)) ≡ Err (record { error_code = error_codes.KindMismatch; text = languages.Model; at = record { start = 0; end = 11 }; detail = Nothing })
unfolding role_of marks keys operations operation reduction is_minus is_small number_in numeral_at mantissa_at power_at whole_value span_of span_between braces_span
and_number = refl

-- not (1 >= 2)
not_true : value [] [] (negated (key (codes "not") 0 3) (mark (codes "(") 4 5) (chain 7 (leaf (number (codes "1") 5 6)) (link (operator.One (mark (codes ">=") 7 9)) (leaf (number (codes "2") 10 11)) none)) (mark (codes ")") 11 12)) ≡ Ok (Truth true)
unfolding role_of marks keys operations operation reduction is_minus is_small number_in numeral_at mantissa_at power_at whole_value span_of span_between braces_span
not_true = refl

-- not (1)
not_number : value [] [] (negated (key (codes "not") 0 3) (mark (codes "(") 4 5) (leaf (number (codes "1") 5 6)) (mark (codes ")") 6 7)) ≡ Err (record { error_code = error_codes.KindMismatch; text = languages.Model; at = record { start = 0; end = 7 }; detail = Nothing })
unfolding role_of marks keys operations operation reduction is_minus is_small number_in numeral_at mantissa_at power_at whole_value span_of span_between braces_span
not_number = refl

-- (if 1 = 2 then 7 div 0)
missing_else : value [] [] (parens (mark (codes "(") 0 1) (choice (key (codes "if") 1 3) (chain 7 (leaf (number (codes "1") 4 5)) (link (operator.One (mark (codes "=") 6 7)) (leaf (number (codes "2") 8 9)) none)) (key (codes "then") 10 14) (chain 1 (leaf (number (codes "7") 15 16)) (link (operator.One (key (codes "div") 17 20)) (leaf (number (codes "0") 21 22)) none)) absent) (mark (codes ")") 22 23)) ≡ Ok (One (Number (pos 0)))
unfolding role_of marks keys operations operation reduction is_minus is_small number_in numeral_at mantissa_at power_at whole_value span_of span_between braces_span
missing_else = refl

-- (if 1 < 2 then {1} else 7 div 0)
then_side : value [] [] (parens (mark (codes "(") 0 1) (choice (key (codes "if") 1 3) (chain 7 (leaf (number (codes "1") 4 5)) (link (operator.One (mark (codes "<") 6 7)) (leaf (number (codes "2") 8 9)) none)) (key (codes "then") 10 14) (braced (filled (mark (codes "{") 15 16) (leaf (number (codes "1") 16 17)) none absent (mark (codes "}") 17 18))) (part (key (codes "else") 19 23) (chain 1 (leaf (number (codes "7") 24 25)) (link (operator.One (key (codes "div") 26 29)) (leaf (number (codes "0") 30 31)) none)))) (mark (codes ")") 31 32)) ≡ Ok (Many (Some 1) ((Number (pos 1) ∷ []) ∷ []))
unfolding role_of marks keys operations operation reduction is_minus is_small number_in numeral_at mantissa_at power_at whole_value span_of span_between braces_span
then_side = refl

-- (if 1 then 2)
if_number : value [] [] (parens (mark (codes "(") 0 1) (choice (key (codes "if") 1 3) (leaf (number (codes "1") 4 5)) (key (codes "then") 6 10) (leaf (number (codes "2") 11 12)) absent) (mark (codes ")") 12 13)) ≡ Err (record { error_code = error_codes.KindMismatch; text = languages.Model; at = record { start = 1; end = 12 }; detail = Nothing })
unfolding role_of marks keys operations operation reduction is_minus is_small number_in numeral_at mantissa_at power_at whole_value span_of span_between braces_span
if_number = refl
