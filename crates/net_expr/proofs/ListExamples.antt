-- Braces that list. Values of trees, worked out.
use Rattle.std.specs.Prelude.{◌≡◌, [], ◌∷◌, Some, Ok, Err, pos, codes}
use Rattle.std.proofs.Common.{refl}
use Rattle.net_lex.specs.NumeralFront.{mantissa_at, power_at, numeral_at}
use Rattle.net_lex.specs.Significands.{whole_value}
use Rattle.net_sets.specs.declared.member.Member.TheVariants.{Number}
use Rattle.net_tree.specs.declared.operator.OperatorWords.TheVariants as operator
use Rattle.net_tree.specs.Role.{role_of, marks, keys}
use Rattle.net_tree.specs.Spans.{span_of, span_between, braces_span}
use Rattle.net_tree.specs.Tree.{leaf, tuple, braced, reduced, chain, none, link, absent, part, empty, filled}
use Rattle.net_base.specs.declared.diagnostic.Language.TheVariants as languages
use Rattle.net_base.specs.declared.error_code.ErrorCode.TheVariants as error_codes
use Rattle.net_base.specs.declared.diagnostic.Detail.TheVariants.{Nothing}
use Rattle.net_expr.specs.declared.value.Value.TheVariants.{One, Many}
use Rattle.net_expr.specs.Limits.{is_small}
use Rattle.net_tree.specs.Operations.{operations, operation, reduction, is_minus}
use Rattle.net_tree.specs.Numerals.{number_in}
use Rattle.net_expr.specs.Values.{value}
use Rattle.net_expr.proofs.Trees.{number, key, mark}

-- {3,1,3}
each_once : value [] [] (braced (filled (mark (codes "{") 0 1) (leaf (number (codes "3") 1 2)) (link (operator.One (mark (codes ",") 2 3)) (leaf (number (codes "1") 3 4)) (link (operator.One (mark (codes ",") 4 5)) (leaf (number (codes "3") 5 6)) none)) absent (mark (codes "}") 6 7))) ≡ Ok (Many (Some 1) ((Number (pos 3) ∷ []) ∷ (Number (pos 1) ∷ []) ∷ []))
unfolding role_of marks keys operations operation reduction is_minus is_small number_in numeral_at mantissa_at power_at whole_value span_of span_between braces_span
each_once = refl

-- {(1,2),(2,1)}
listed_pairs : value [] [] (braced (filled (mark (codes "{") 0 1) (tuple (mark (codes "(") 1 2) (leaf (number (codes "1") 2 3)) (link (operator.One (mark (codes ",") 3 4)) (leaf (number (codes "2") 4 5)) none) (mark (codes ")") 5 6)) (link (operator.One (mark (codes ",") 6 7)) (tuple (mark (codes "(") 7 8) (leaf (number (codes "2") 8 9)) (link (operator.One (mark (codes ",") 9 10)) (leaf (number (codes "1") 10 11)) none) (mark (codes ")") 11 12)) none) absent (mark (codes "}") 12 13))) ≡ Ok (Many (Some 2) ((Number (pos 1) ∷ Number (pos 2) ∷ []) ∷ (Number (pos 2) ∷ Number (pos 1) ∷ []) ∷ []))
unfolding role_of marks keys operations operation reduction is_minus is_small number_in numeral_at mantissa_at power_at whole_value span_of span_between braces_span
listed_pairs = refl

-- {1,(2,3)}
other_lengths : value [] [] (braced (filled (mark (codes "{") 0 1) (leaf (number (codes "1") 1 2)) (link (operator.One (mark (codes ",") 2 3)) (tuple (mark (codes "(") 3 4) (leaf (number (codes "2") 4 5)) (link (operator.One (mark (codes ",") 5 6)) (leaf (number (codes "3") 6 7)) none) (mark (codes ")") 7 8)) none) absent (mark (codes "}") 8 9))) ≡ Err (record { error_code = error_codes.Arity; text = languages.Model; at = record { start = 0; end = 9 }; detail = Nothing })
unfolding role_of marks keys operations operation reduction is_minus is_small number_in numeral_at mantissa_at power_at whole_value span_of span_between braces_span
other_lengths = refl

-- {1,{2}}
mixture : value [] [] (braced (filled (mark (codes "{") 0 1) (leaf (number (codes "1") 1 2)) (link (operator.One (mark (codes ",") 2 3)) (braced (filled (mark (codes "{") 3 4) (leaf (number (codes "2") 4 5)) none absent (mark (codes "}") 5 6))) none) absent (mark (codes "}") 6 7))) ≡ Err (record { error_code = error_codes.KindMismatch; text = languages.Model; at = record { start = 0; end = 7 }; detail = Nothing })
unfolding role_of marks keys operations operation reduction is_minus is_small number_in numeral_at mantissa_at power_at whole_value span_of span_between braces_span
mixture = refl

-- {1,2: 1 = 1}
list_with_condition : value [] [] (braced (filled (mark (codes "{") 0 1) (leaf (number (codes "1") 1 2)) (link (operator.One (mark (codes ",") 2 3)) (leaf (number (codes "2") 3 4)) none) (part (mark (codes ":") 4 5) (chain 7 (leaf (number (codes "1") 6 7)) (link (operator.One (mark (codes "=") 8 9)) (leaf (number (codes "1") 10 11)) none))) (mark (codes "}") 11 12))) ≡ Err (record { error_code = error_codes.KindMismatch; text = languages.Model; at = record { start = 0; end = 12 }; detail = Nothing })
unfolding role_of marks keys operations operation reduction is_minus is_small number_in numeral_at mantissa_at power_at whole_value span_of span_between braces_span
list_with_condition = refl

-- {1,7 div 0: 1 = 1}
items_before_condition : value [] [] (braced (filled (mark (codes "{") 0 1) (leaf (number (codes "1") 1 2)) (link (operator.One (mark (codes ",") 2 3)) (chain 1 (leaf (number (codes "7") 3 4)) (link (operator.One (key (codes "div") 5 8)) (leaf (number (codes "0") 9 10)) none)) none) (part (mark (codes ":") 10 11) (chain 7 (leaf (number (codes "1") 12 13)) (link (operator.One (mark (codes "=") 14 15)) (leaf (number (codes "1") 16 17)) none))) (mark (codes "}") 17 18))) ≡ Err (record { error_code = error_codes.DivMod; text = languages.Model; at = record { start = 3; end = 10 }; detail = Nothing })
unfolding role_of marks keys operations operation reduction is_minus is_small number_in numeral_at mantissa_at power_at whole_value span_of span_between braces_span
items_before_condition = refl

-- {: 7 div 0 = 1}
condition_alone : value [] [] (braced (empty (mark (codes "{") 0 1) (part (mark (codes ":") 1 2) (chain 7 (chain 1 (leaf (number (codes "7") 3 4)) (link (operator.One (key (codes "div") 5 8)) (leaf (number (codes "0") 9 10)) none)) (link (operator.One (mark (codes "=") 11 12)) (leaf (number (codes "1") 13 14)) none))) (mark (codes "}") 14 15))) ≡ Err (record { error_code = error_codes.KindMismatch; text = languages.Model; at = record { start = 0; end = 15 }; detail = Nothing })
unfolding role_of marks keys operations operation reduction is_minus is_small number_in numeral_at mantissa_at power_at whole_value span_of span_between braces_span
condition_alone = refl

-- sum {3,1} 2
sum_over_a_list : value [] [] (reduced (key (codes "sum") 0 3) (filled (mark (codes "{") 4 5) (leaf (number (codes "3") 5 6)) (link (operator.One (mark (codes ",") 6 7)) (leaf (number (codes "1") 7 8)) none) absent (mark (codes "}") 8 9)) (leaf (number (codes "2") 10 11))) ≡ Ok (One (Number (pos 4)))
unfolding role_of marks keys operations operation reduction is_minus is_small number_in numeral_at mantissa_at power_at whole_value span_of span_between braces_span
sum_over_a_list = refl
