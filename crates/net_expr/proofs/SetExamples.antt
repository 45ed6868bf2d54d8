-- Sets. Values of trees, worked out.
use Rattle.std.specs.Prelude.{◌≡◌, true, false, [], ◌∷◌, None, Some, Ok, Err, pos, codes}
use Rattle.std.proofs.Common.{refl}
use Rattle.net_lex.specs.NumeralFront.{mantissa_at, power_at, numeral_at}
use Rattle.net_lex.specs.Significands.{whole_value}
use Rattle.net_sets.specs.declared.member.Member.TheVariants.{Number}
use Rattle.net_tree.specs.declared.operator.OperatorWords.TheVariants as operator
use Rattle.net_tree.specs.Role.{role_of, marks, keys}
use Rattle.net_tree.specs.Spans.{span_of, span_between, braces_span}
use Rattle.net_tree.specs.Tree.{leaf, parens, tuple, braced, chain, none, link, absent, empty, filled}
use Rattle.net_base.specs.declared.diagnostic.Language.TheVariants as languages
use Rattle.net_base.specs.declared.error_code.ErrorCode.TheVariants as error_codes
use Rattle.net_base.specs.declared.diagnostic.Detail.TheVariants.{Nothing}
use Rattle.net_expr.specs.declared.value.Value.TheVariants.{Many, Truth}
use Rattle.net_expr.specs.Limits.{is_small}
use Rattle.net_tree.specs.Operations.{operations, operation, reduction, is_minus}
use Rattle.net_tree.specs.Numerals.{number_in}
use Rattle.net_expr.specs.Values.{value}
use Rattle.net_expr.proofs.Trees.{name, number, string, key, mark, cities}

-- {3,1} union {2,1}
united : value [] [] (chain 6 (braced (filled (mark (codes "{") 0 1) (leaf (number (codes "3") 1 2)) (link (operator.One (mark (codes ",") 2 3)) (leaf (number (codes "1") 3 4)) none) absent (mark (codes "}") 4 5))) (link (operator.One (key (codes "union") 6 11)) (braced (filled (mark (codes "{") 12 13) (leaf (number (codes "2") 13 14)) (link (operator.One (mark (codes ",") 14 15)) (leaf (number (codes "1") 15 16)) none) absent (mark (codes "}") 16 17))) none)) ≡ Ok (Many (Some 1) ((Number (pos 3) ∷ []) ∷ (Number (pos 1) ∷ []) ∷ (Number (pos 2) ∷ []) ∷ []))
unfolding role_of marks keys operations operation reduction is_minus is_small number_in numeral_at mantissa_at power_at whole_value span_of span_between braces_span
united = refl

-- {3,1,2} diff {1}
lacking : value [] [] (chain 6 (braced (filled (mark (codes "{") 0 1) (leaf (number (codes "3") 1 2)) (link (operator.One (mark (codes ",") 2 3)) (leaf (number (codes "1") 3 4)) (link (operator.One (mark (codes ",") 4 5)) (leaf (number (codes "2") 5 6)) none)) absent (mark (codes "}") 6 7))) (link (operator.One (key (codes "diff") 8 12)) (braced (filled (mark (codes "{") 13 14) (leaf (number (codes "1") 14 15)) none absent (mark (codes "}") 15 16))) none)) ≡ Ok (Many (Some 1) ((Number (pos 3) ∷ []) ∷ (Number (pos 2) ∷ []) ∷ []))
unfolding role_of marks keys operations operation reduction is_minus is_small number_in numeral_at mantissa_at power_at whole_value span_of span_between braces_span
lacking = refl

-- {3,1,2} inter {2,3}
common : value [] [] (chain 5 (braced (filled (mark (codes "{") 0 1) (leaf (number (codes "3") 1 2)) (link (operator.One (mark (codes ",") 2 3)) (leaf (number (codes "1") 3 4)) (link (operator.One (mark (codes ",") 4 5)) (leaf (number (codes "2") 5 6)) none)) absent (mark (codes "}") 6 7))) (link (operator.One (key (codes "inter") 8 13)) (braced (filled (mark (codes "{") 14 15) (leaf (number (codes "2") 15 16)) (link (operator.One (mark (codes ",") 16 17)) (leaf (number (codes "3") 17 18)) none) absent (mark (codes "}") 18 19))) none)) ≡ Ok (Many (Some 1) ((Number (pos 3) ∷ []) ∷ (Number (pos 2) ∷ []) ∷ []))
unfolding role_of marks keys operations operation reduction is_minus is_small number_in numeral_at mantissa_at power_at whole_value span_of span_between braces_span
common = refl

-- {1,2} symdiff {3,2}
either_set : value [] [] (chain 6 (braced (filled (mark (codes "{") 0 1) (leaf (number (codes "1") 1 2)) (link (operator.One (mark (codes ",") 2 3)) (leaf (number (codes "2") 3 4)) none) absent (mark (codes "}") 4 5))) (link (operator.One (key (codes "symdiff") 6 13)) (braced (filled (mark (codes "{") 14 15) (leaf (number (codes "3") 15 16)) (link (operator.One (mark (codes ",") 16 17)) (leaf (number (codes "2") 17 18)) none) absent (mark (codes "}") 18 19))) none)) ≡ Ok (Many (Some 1) ((Number (pos 1) ∷ []) ∷ (Number (pos 3) ∷ []) ∷ []))
unfolding role_of marks keys operations operation reduction is_minus is_small number_in numeral_at mantissa_at power_at whole_value span_of span_between braces_span
either_set = refl

-- {2,1} cross {3,4}
crossed_sets : value [] [] (chain 4 (braced (filled (mark (codes "{") 0 1) (leaf (number (codes "2") 1 2)) (link (operator.One (mark (codes ",") 2 3)) (leaf (number (codes "1") 3 4)) none) absent (mark (codes "}") 4 5))) (link (operator.One (key (codes "cross") 6 11)) (braced (filled (mark (codes "{") 12 13) (leaf (number (codes "3") 13 14)) (link (operator.One (mark (codes ",") 14 15)) (leaf (number (codes "4") 15 16)) none) absent (mark (codes "}") 16 17))) none)) ≡ Ok (Many (Some 2) ((Number (pos 2) ∷ Number (pos 3) ∷ []) ∷ (Number (pos 2) ∷ Number (pos 4) ∷ []) ∷ (Number (pos 1) ∷ Number (pos 3) ∷ []) ∷ (Number (pos 1) ∷ Number (pos 4) ∷ []) ∷ []))
unfolding role_of marks keys operations operation reduction is_minus is_small number_in numeral_at mantissa_at power_at whole_value span_of span_between braces_span
crossed_sets = refl

-- 1 .. 8 by 3
range_up : value [] [] (chain 3 (leaf (number (codes "1") 0 1)) (link (operator.One (mark (codes "..") 2 4)) (leaf (number (codes "8") 5 6)) (link (operator.One (key (codes "by") 7 9)) (leaf (number (codes "3") 10 11)) none))) ≡ Ok (Many (Some 1) ((Number (pos 1) ∷ []) ∷ (Number (pos 4) ∷ []) ∷ (Number (pos 7) ∷ []) ∷ []))
unfolding role_of marks keys operations operation reduction is_minus is_small number_in numeral_at mantissa_at power_at whole_value span_of span_between braces_span
range_up = refl

-- 2 .. 1
range_away : value [] [] (chain 3 (leaf (number (codes "2") 0 1)) (link (operator.One (mark (codes "..") 2 4)) (leaf (number (codes "1") 5 6)) none)) ≡ Ok (Many (Some 1) ([]))
unfolding role_of marks keys operations operation reduction is_minus is_small number_in numeral_at mantissa_at power_at whole_value span_of span_between braces_span
range_away = refl

-- 1 .. 2 by 0
range_stands : value [] [] (chain 3 (leaf (number (codes "1") 0 1)) (link (operator.One (mark (codes "..") 2 4)) (leaf (number (codes "2") 5 6)) (link (operator.One (key (codes "by") 7 9)) (leaf (number (codes "0") 10 11)) none))) ≡ Err (record { error_code = error_codes.DivMod; text = languages.Model; at = record { start = 0; end = 11 }; detail = Nothing })
unfolding role_of marks keys operations operation reduction is_minus is_small number_in numeral_at mantissa_at power_at whole_value span_of span_between braces_span
range_stands = refl

-- 1 in 1 .. 1000001
range_too_long : value [] [] (chain 7 (leaf (number (codes "1") 0 1)) (link (operator.One (key (codes "in") 2 4)) (chain 3 (leaf (number (codes "1") 5 6)) (link (operator.One (mark (codes "..") 7 9)) (leaf (number (codes "1000001") 10 17)) none)) none)) ≡ Err (record { error_code = error_codes.TooMany; text = languages.Model; at = record { start = 5; end = 17 }; detail = Nothing })
unfolding role_of marks keys operations operation reduction is_minus is_small number_in numeral_at mantissa_at power_at whole_value span_of span_between braces_span
range_too_long = refl

-- {1} union {(1,2)}
other_dimension : value [] [] (chain 6 (braced (filled (mark (codes "{") 0 1) (leaf (number (codes "1") 1 2)) none absent (mark (codes "}") 2 3))) (link (operator.One (key (codes "union") 4 9)) (braced (filled (mark (codes "{") 10 11) (tuple (mark (codes "(") 11 12) (leaf (number (codes "1") 12 13)) (link (operator.One (mark (codes ",") 13 14)) (leaf (number (codes "2") 14 15)) none) (mark (codes ")") 15 16)) none absent (mark (codes "}") 16 17))) none)) ≡ Err (record { error_code = error_codes.Arity; text = languages.Model; at = record { start = 0; end = 17 }; detail = Nothing })
unfolding role_of marks keys operations operation reduction is_minus is_small number_in numeral_at mantissa_at power_at whole_value span_of span_between braces_span
other_dimension = refl

-- LINKS cross LINKS cross CITIES
five_components : value cities [] (chain 4 (leaf (name (codes "LINKS") 0 5)) (link (operator.One (key (codes "cross") 6 11)) (leaf (name (codes "LINKS") 12 17)) (link (operator.One (key (codes "cross") 18 23)) (leaf (name (codes "CITIES") 24 30)) none))) ≡ Err (record { error_code = error_codes.Arity; text = languages.Model; at = record { start = 0; end = 30 }; detail = Nothing })
unfolding role_of marks keys operations operation reduction is_minus is_small number_in numeral_at mantissa_at power_at whole_value span_of span_between braces_span
five_components = refl

-- {} union {(1,2)}
nothing_fits : value [] [] (chain 6 (braced (empty (mark (codes "{") 0 1) absent (mark (codes "}") 1 2))) (link (operator.One (key (codes "union") 3 8)) (braced (filled (mark (codes "{") 9 10) (tuple (mark (codes "(") 10 11) (leaf (number (codes "1") 11 12)) (link (operator.One (mark (codes ",") 12 13)) (leaf (number (codes "2") 13 14)) none) (mark (codes ")") 14 15)) none absent (mark (codes "}") 15 16))) none)) ≡ Ok (Many (Some 2) ((Number (pos 1) ∷ Number (pos 2) ∷ []) ∷ []))
unfolding role_of marks keys operations operation reduction is_minus is_small number_in numeral_at mantissa_at power_at whole_value span_of span_between braces_span
nothing_fits = refl

-- {} union {}
nothing_twice : value [] [] (chain 6 (braced (empty (mark (codes "{") 0 1) absent (mark (codes "}") 1 2))) (link (operator.One (key (codes "union") 3 8)) (braced (empty (mark (codes "{") 9 10) absent (mark (codes "}") 10 11))) none)) ≡ Ok (Many (Some 1) ([]))
unfolding role_of marks keys operations operation reduction is_minus is_small number_in numeral_at mantissa_at power_at whole_value span_of span_between braces_span
nothing_twice = refl

-- {} cross {(1,2)}
nothing_counts_as_one : value [] [] (chain 4 (braced (empty (mark (codes "{") 0 1) absent (mark (codes "}") 1 2))) (link (operator.One (key (codes "cross") 3 8)) (braced (filled (mark (codes "{") 9 10) (tuple (mark (codes "(") 10 11) (leaf (number (codes "1") 11 12)) (link (operator.One (mark (codes ",") 12 13)) (leaf (number (codes "2") 13 14)) none) (mark (codes ")") 14 15)) none absent (mark (codes "}") 15 16))) none)) ≡ Ok (Many (Some 3) ([]))
unfolding role_of marks keys operations operation reduction is_minus is_small number_in numeral_at mantissa_at power_at whole_value span_of span_between braces_span
nothing_counts_as_one = refl

-- ({})
nothing_itself : value [] [] (parens (mark (codes "(") 0 1) (braced (empty (mark (codes "{") 1 2) absent (mark (codes "}") 2 3))) (mark (codes ")") 3 4)) ≡ Ok (Many None ([]))
unfolding role_of marks keys operations operation reduction is_minus is_small number_in numeral_at mantissa_at power_at whole_value span_of span_between braces_span
nothing_itself = refl

-- 3 in {3,1}
belongs_to : value [] [] (chain 7 (leaf (number (codes "3") 0 1)) (link (operator.One (key (codes "in") 2 4)) (braced (filled (mark (codes "{") 5 6) (leaf (number (codes "3") 6 7)) (link (operator.One (mark (codes ",") 7 8)) (leaf (number (codes "1") 8 9)) none) absent (mark (codes "}") 9 10))) none)) ≡ Ok (Truth true)
unfolding role_of marks keys operations operation reduction is_minus is_small number_in numeral_at mantissa_at power_at whole_value span_of span_between braces_span
belongs_to = refl

-- '3' not in {3,1}
text_does_not_belong : value [] [] (chain 7 (leaf (string (codes "'3'") 0 3)) (link (operator.Two (key (codes "not") 4 7) (key (codes "in") 8 10)) (braced (filled (mark (codes "{") 11 12) (leaf (number (codes "3") 12 13)) (link (operator.One (mark (codes ",") 13 14)) (leaf (number (codes "1") 14 15)) none) absent (mark (codes "}") 15 16))) none)) ≡ Ok (Truth true)
unfolding role_of marks keys operations operation reduction is_minus is_small number_in numeral_at mantissa_at power_at whole_value span_of span_between braces_span
text_does_not_belong = refl

-- ('a','b') in LINKS
pair_belongs : value cities [] (chain 7 (tuple (mark (codes "(") 0 1) (leaf (string (codes "'a'") 1 4)) (link (operator.One (mark (codes ",") 4 5)) (leaf (string (codes "'b'") 5 8)) none) (mark (codes ")") 8 9)) (link (operator.One (key (codes "in") 10 12)) (leaf (name (codes "LINKS") 13 18)) none)) ≡ Ok (Truth true)
unfolding role_of marks keys operations operation reduction is_minus is_small number_in numeral_at mantissa_at power_at whole_value span_of span_between braces_span
pair_belongs = refl

-- 'a' in LINKS
single_in_pairs : value cities [] (chain 7 (leaf (string (codes "'a'") 0 3)) (link (operator.One (key (codes "in") 4 6)) (leaf (name (codes "LINKS") 7 12)) none)) ≡ Err (record { error_code = error_codes.Arity; text = languages.Model; at = record { start = 0; end = 12 }; detail = Nothing })
unfolding role_of marks keys operations operation reduction is_minus is_small number_in numeral_at mantissa_at power_at whole_value span_of span_between braces_span
single_in_pairs = refl

-- (1,2) in {}
in_nothing : value [] [] (chain 7 (tuple (mark (codes "(") 0 1) (leaf (number (codes "1") 1 2)) (link (operator.One (mark (codes ",") 2 3)) (leaf (number (codes "2") 3 4)) none) (mark (codes ")") 4 5)) (link (operator.One (key (codes "in") 6 8)) (braced (empty (mark (codes "{") 9 10) absent (mark (codes "}") 10 11))) none)) ≡ Ok (Truth false)
unfolding role_of marks keys operations operation reduction is_minus is_small number_in numeral_at mantissa_at power_at whole_value span_of span_between braces_span
in_nothing = refl

-- {1} within {2,1}
set_within : value [] [] (chain 7 (braced (filled (mark (codes "{") 0 1) (leaf (number (codes "1") 1 2)) none absent (mark (codes "}") 2 3))) (link (operator.One (key (codes "within") 4 10)) (braced (filled (mark (codes "{") 11 12) (leaf (number (codes "2") 12 13)) (link (operator.One (mark (codes ",") 13 14)) (leaf (number (codes "1") 14 15)) none) absent (mark (codes "}") 15 16))) none)) ≡ Ok (Truth true)
unfolding role_of marks keys operations operation reduction is_minus is_small number_in numeral_at mantissa_at power_at whole_value span_of span_between braces_span
set_within = refl

-- LINKS not within (CITIES cross CITIES)
set_not_within : value cities [] (chain 7 (leaf (name (codes "LINKS") 0 5)) (link (operator.Two (key (codes "not") 6 9) (key (codes "within") 10 16)) (parens (mark (codes "(") 17 18) (chain 4 (leaf (name (codes "CITIES") 18 24)) (link (operator.One (key (codes "cross") 25 30)) (leaf (name (codes "CITIES") 31 37)) none)) (mark (codes ")") 37 38)) none)) ≡ Ok (Truth false)
unfolding role_of marks keys operations operation reduction is_minus is_small number_in numeral_at mantissa_at power_at whole_value span_of span_between braces_span
set_not_within = refl
