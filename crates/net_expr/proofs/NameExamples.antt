-- Names. Values of trees, worked out.
use Rattle.std.specs.Prelude.{◌≡◌, [], ◌∷◌, Some, Ok, Err, pos, codes}
use Rattle.std.proofs.Common.{refl}
use Rattle.net_lex.specs.NumeralFront.{mantissa_at, power_at, numeral_at}
use Rattle.net_lex.specs.Significands.{whole_value}
use Rattle.net_sets.specs.declared.member.Member.TheVariants.{Number, Name}
use Rattle.net_tree.specs.declared.operator.OperatorWords.TheVariants as operator
use Rattle.net_tree.specs.Role.{role_of, marks, keys}
use Rattle.net_tree.specs.Spans.{span_of, span_between, braces_span}
use Rattle.net_tree.specs.Tree.{leaf, indexed, parens, tuple, chain, none, link}
use Rattle.net_base.specs.declared.diagnostic.Language.TheVariants as languages
use Rattle.net_base.specs.declared.error_code.ErrorCode.TheVariants as error_codes
use Rattle.net_base.specs.declared.diagnostic.Detail.TheVariants.{Nothing, Reported}
use Rattle.net_expr.specs.declared.value.Value.TheVariants.{One, Many}
use Rattle.net_expr.specs.Limits.{is_small}
use Rattle.net_tree.specs.Operations.{operations, operation, reduction, is_minus}
use Rattle.net_tree.specs.Numerals.{number_in}
use Rattle.net_expr.specs.Values.{value}
use Rattle.net_expr.proofs.Trees.{name, number, string, key, mark, cities, i_is}

-- LINKS
name_of_a_set : value cities [] (leaf (name (codes "LINKS") 0 5)) ≡ Ok (Many (Some 2) ((Name (codes "a") ∷ Name (codes "b") ∷ []) ∷ (Name (codes "b") ∷ Name (codes "a") ∷ []) ∷ []))
unfolding role_of marks keys operations operation reduction is_minus is_small number_in numeral_at mantissa_at power_at whole_value span_of span_between braces_span
name_of_a_set = refl

-- cost['a','b']
value_at_a_key : value cities [] (indexed (name (codes "cost") 0 4) (mark (codes "[") 4 5) (leaf (string (codes "'a'") 5 8)) (link (operator.One (mark (codes ",") 8 9)) (leaf (string (codes "'b'") 9 12)) none) (mark (codes "]") 12 13)) ≡ Ok (One (Number (pos 1)))
unfolding role_of marks keys operations operation reduction is_minus is_small number_in numeral_at mantissa_at power_at whole_value span_of span_between braces_span
value_at_a_key = refl

-- 1 + cost['b','a']
no_value : value cities [] (chain 2 (leaf (number (codes "1") 0 1)) (link (operator.One (mark (codes "+") 2 3)) (indexed (name (codes "cost") 4 8) (mark (codes "[") 8 9) (leaf (string (codes "'b'") 9 12)) (link (operator.One (mark (codes ",") 12 13)) (leaf (string (codes "'a'") 13 16)) none) (mark (codes "]") 16 17)) none)) ≡ Err (record { error_code = error_codes.NoValue; text = languages.Model; at = record { start = 4; end = 17 }; detail = Reported (codes "cost['b','a']") })
unfolding role_of marks keys operations operation reduction is_minus is_small number_in numeral_at mantissa_at power_at whole_value span_of span_between braces_span
no_value = refl

-- cost['a','a']
outside : value cities [] (indexed (name (codes "cost") 0 4) (mark (codes "[") 4 5) (leaf (string (codes "'a'") 5 8)) (link (operator.One (mark (codes ",") 8 9)) (leaf (string (codes "'a'") 9 12)) none) (mark (codes "]") 12 13)) ≡ Err (record { error_code = error_codes.OutsideSet; text = languages.Model; at = record { start = 0; end = 13 }; detail = Reported (codes "cost['a','a']") })
unfolding role_of marks keys operations operation reduction is_minus is_small number_in numeral_at mantissa_at power_at whole_value span_of span_between braces_span
outside = refl

-- cost['a']
one_subscript : value cities [] (indexed (name (codes "cost") 0 4) (mark (codes "[") 4 5) (leaf (string (codes "'a'") 5 8)) none (mark (codes "]") 8 9)) ≡ Err (record { error_code = error_codes.Arity; text = languages.Model; at = record { start = 0; end = 9 }; detail = Nothing })
unfolding role_of marks keys operations operation reduction is_minus is_small number_in numeral_at mantissa_at power_at whole_value span_of span_between braces_span
one_subscript = refl

-- 1 + cost
no_subscripts : value cities [] (chain 2 (leaf (number (codes "1") 0 1)) (link (operator.One (mark (codes "+") 2 3)) (leaf (name (codes "cost") 4 8)) none)) ≡ Err (record { error_code = error_codes.Arity; text = languages.Model; at = record { start = 4; end = 8 }; detail = Nothing })
unfolding role_of marks keys operations operation reduction is_minus is_small number_in numeral_at mantissa_at power_at whole_value span_of span_between braces_span
no_subscripts = refl

-- CITIES[7 div 1]
set_with_subscript : value cities [] (indexed (name (codes "CITIES") 0 6) (mark (codes "[") 6 7) (chain 1 (leaf (number (codes "7") 7 8)) (link (operator.One (key (codes "div") 9 12)) (leaf (number (codes "1") 13 14)) none)) none (mark (codes "]") 14 15)) ≡ Err (record { error_code = error_codes.Arity; text = languages.Model; at = record { start = 0; end = 15 }; detail = Nothing })
unfolding role_of marks keys operations operation reduction is_minus is_small number_in numeral_at mantissa_at power_at whole_value span_of span_between braces_span
set_with_subscript = refl

-- i[1]
dummy_with_subscript : value [] (i_is 1) (indexed (name (codes "i") 0 1) (mark (codes "[") 1 2) (leaf (number (codes "1") 2 3)) none (mark (codes "]") 3 4)) ≡ Err (record { error_code = error_codes.Arity; text = languages.Model; at = record { start = 0; end = 4 }; detail = Nothing })
unfolding role_of marks keys operations operation reduction is_minus is_small number_in numeral_at mantissa_at power_at whole_value span_of span_between braces_span
dummy_with_subscript = refl

-- cost[((1,2))]
tuple_as_subscript : value cities [] (indexed (name (codes "cost") 0 4) (mark (codes "[") 4 5) (parens (mark (codes "(") 5 6) (tuple (mark (codes "(") 6 7) (leaf (number (codes "1") 7 8)) (link (operator.One (mark (codes ",") 8 9)) (leaf (number (codes "2") 9 10)) none) (mark (codes ")") 10 11)) (mark (codes ")") 11 12)) none (mark (codes "]") 12 13)) ≡ Err (record { error_code = error_codes.KindMismatch; text = languages.Model; at = record { start = 0; end = 13 }; detail = Nothing })
unfolding role_of marks keys operations operation reduction is_minus is_small number_in numeral_at mantissa_at power_at whole_value span_of span_between braces_span
tuple_as_subscript = refl

-- rate * 2
without_braces : value cities [] (chain 1 (leaf (name (codes "rate") 0 4)) (link (operator.One (mark (codes "*") 5 6)) (leaf (number (codes "2") 7 8)) none)) ≡ Ok (One (Number (pos 14)))
unfolding role_of marks keys operations operation reduction is_minus is_small number_in numeral_at mantissa_at power_at whole_value span_of span_between braces_span
without_braces = refl

-- base
without_value : value cities [] (leaf (name (codes "base") 0 4)) ≡ Err (record { error_code = error_codes.NoValue; text = languages.Model; at = record { start = 0; end = 4 }; detail = Reported (codes "base") })
unfolding role_of marks keys operations operation reduction is_minus is_small number_in numeral_at mantissa_at power_at whole_value span_of span_between braces_span
without_value = refl

-- i + 1
dummy_in_scope : value [] (i_is 3) (chain 2 (leaf (name (codes "i") 0 1)) (link (operator.One (mark (codes "+") 2 3)) (leaf (number (codes "1") 4 5)) none)) ≡ Ok (One (Number (pos 4)))
unfolding role_of marks keys operations operation reduction is_minus is_small number_in numeral_at mantissa_at power_at whole_value span_of span_between braces_span
dummy_in_scope = refl

-- n
unknown : value [] [] (leaf (name (codes "n") 0 1)) ≡ Err (record { error_code = error_codes.KindMismatch; text = languages.Model; at = record { start = 0; end = 1 }; detail = Nothing })
unfolding role_of marks keys operations operation reduction is_minus is_small number_in numeral_at mantissa_at power_at whole_value span_of span_between braces_span
unknown = refl
