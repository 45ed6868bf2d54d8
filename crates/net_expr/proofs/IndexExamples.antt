-- Braces that index. Values of trees, worked out.
use Rattle.std.specs.Prelude.{◌≡◌, None, [], ◌∷◌, Some, Ok, Err, pos, codes}
use Rattle.std.proofs.Common.{refl}
use Rattle.net_lex.specs.NumeralFront.{mantissa_at, power_at, numeral_at}
use Rattle.net_lex.specs.Significands.{whole_value}
use Rattle.net_sets.specs.declared.member.Member.TheVariants.{Number, Name}
use Rattle.net_tree.specs.declared.operator.OperatorWords.TheVariants as operator
use Rattle.net_tree.specs.Role.{role_of, marks, keys}
use Rattle.net_tree.specs.Spans.{span_of, span_between, braces_span}
use Rattle.net_tree.specs.Tree.{leaf, indexed, parens, tuple, braced, chain, choice, none, link, absent, part, empty, filled}
use Rattle.net_base.specs.declared.diagnostic.Language.TheVariants as languages
use Rattle.net_base.specs.declared.error_code.ErrorCode.TheVariants as error_codes
use Rattle.net_base.specs.declared.diagnostic.Detail.TheVariants.{Nothing, Reported}
use Rattle.net_expr.specs.declared.value.Value.TheVariants.{Many}
use Rattle.net_expr.specs.Limits.{is_small}
use Rattle.net_tree.specs.Operations.{operations, operation, reduction, is_minus}
use Rattle.net_tree.specs.Numerals.{number_in}
use Rattle.net_expr.specs.Values.{value, index}
use Rattle.net_expr.proofs.Trees.{name, number, key, mark, cities, pairs, i_is}

-- {i in {3,1} union {2,1}}
in_order : value [] [] (braced (filled (mark (codes "{") 0 1) (chain 7 (leaf (name (codes "i") 1 2)) (link (operator.One (key (codes "in") 3 5)) (chain 6 (braced (filled (mark (codes "{") 6 7) (leaf (number (codes "3") 7 8)) (link (operator.One (mark (codes ",") 8 9)) (leaf (number (codes "1") 9 10)) none) absent (mark (codes "}") 10 11))) (link (operator.One (key (codes "union") 12 17)) (braced (filled (mark (codes "{") 18 19) (leaf (number (codes "2") 19 20)) (link (operator.One (mark (codes ",") 20 21)) (leaf (number (codes "1") 21 22)) none) absent (mark (codes "}") 22 23))) none)) none)) none absent (mark (codes "}") 23 24))) ≡ Ok (Many (Some 1) ((Number (pos 3) ∷ []) ∷ (Number (pos 1) ∷ []) ∷ (Number (pos 2) ∷ []) ∷ []))
unfolding role_of marks keys operations operation reduction is_minus is_small number_in numeral_at mantissa_at power_at whole_value span_of span_between braces_span
in_order = refl

-- {i in 1..2, j in i..2}    the second item sees the dummy of the first
pairs_of_two : value [] [] (braced (filled (mark (codes "{") 0 1) (chain 7 (leaf (name (codes "i") 1 2)) (link (operator.One (key (codes "in") 3 5)) (chain 3 (leaf (number (codes "1") 6 7)) (link (operator.One (mark (codes "..") 7 9)) (leaf (number (codes "2") 9 10)) none)) none)) (link (operator.One (mark (codes ",") 10 11)) (chain 7 (leaf (name (codes "j") 12 13)) (link (operator.One (key (codes "in") 14 16)) (chain 3 (leaf (name (codes "i") 17 18)) (link (operator.One (mark (codes "..") 18 20)) (leaf (number (codes "2") 20 21)) none)) none)) none) absent (mark (codes "}") 21 22))) ≡ Ok (Many (Some 2) ((Number (pos 1) ∷ Number (pos 1) ∷ []) ∷ (Number (pos 1) ∷ Number (pos 2) ∷ []) ∷ (Number (pos 2) ∷ Number (pos 2) ∷ []) ∷ []))
unfolding role_of marks keys operations operation reduction is_minus is_small number_in numeral_at mantissa_at power_at whole_value span_of span_between braces_span
pairs_of_two = refl

-- {LINKS, 1..2}
plain_set_items : value cities [] (braced (filled (mark (codes "{") 0 1) (leaf (name (codes "LINKS") 1 6)) (link (operator.One (mark (codes ",") 6 7)) (chain 3 (leaf (number (codes "1") 8 9)) (link (operator.One (mark (codes "..") 9 11)) (leaf (number (codes "2") 11 12)) none)) none) absent (mark (codes "}") 12 13))) ≡ Ok (Many (Some 3) ((Name (codes "a") ∷ Name (codes "b") ∷ Number (pos 1) ∷ []) ∷ (Name (codes "a") ∷ Name (codes "b") ∷ Number (pos 2) ∷ []) ∷ (Name (codes "b") ∷ Name (codes "a") ∷ Number (pos 1) ∷ []) ∷ (Name (codes "b") ∷ Name (codes "a") ∷ Number (pos 2) ∷ []) ∷ []))
unfolding role_of marks keys operations operation reduction is_minus is_small number_in numeral_at mantissa_at power_at whole_value span_of span_between braces_span
plain_set_items = refl

-- {(i,j) in {(1,2),(2,3),(1,4)}}
selects_by_a_dummy : value [] (i_is 1) (braced (filled (mark (codes "{") 0 1) (chain 7 (tuple (mark (codes "(") 1 2) (leaf (name (codes "i") 2 3)) (link (operator.One (mark (codes ",") 3 4)) (leaf (name (codes "j") 4 5)) none) (mark (codes ")") 5 6)) (link (operator.One (key (codes "in") 7 9)) (braced (filled (mark (codes "{") 10 11) (tuple (mark (codes "(") 11 12) (leaf (number (codes "1") 12 13)) (link (operator.One (mark (codes ",") 13 14)) (leaf (number (codes "2") 14 15)) none) (mark (codes ")") 15 16)) (link (operator.One (mark (codes ",") 16 17)) (tuple (mark (codes "(") 17 18) (leaf (number (codes "2") 18 19)) (link (operator.One (mark (codes ",") 19 20)) (leaf (number (codes "3") 20 21)) none) (mark (codes ")") 21 22)) (link (operator.One (mark (codes ",") 22 23)) (tuple (mark (codes "(") 23 24) (leaf (number (codes "1") 24 25)) (link (operator.One (mark (codes ",") 25 26)) (leaf (number (codes "4") 26 27)) none) (mark (codes ")") 27 28)) none)) absent (mark (codes "}") 28 29))) none)) none absent (mark (codes "}") 29 30))) ≡ Ok (Many (Some 1) ((Number (pos 2) ∷ []) ∷ (Number (pos 4) ∷ []) ∷ []))
unfolding role_of marks keys operations operation reduction is_minus is_small number_in numeral_at mantissa_at power_at whole_value span_of span_between braces_span
selects_by_a_dummy = refl

-- {(i,i) in {(1,2),(2,2)}}
selects_by_itself : value [] [] (braced (filled (mark (codes "{") 0 1) (chain 7 (tuple (mark (codes "(") 1 2) (leaf (name (codes "i") 2 3)) (link (operator.One (mark (codes ",") 3 4)) (leaf (name (codes "i") 4 5)) none) (mark (codes ")") 5 6)) (link (operator.One (key (codes "in") 7 9)) (braced (filled (mark (codes "{") 10 11) (tuple (mark (codes "(") 11 12) (leaf (number (codes "1") 12 13)) (link (operator.One (mark (codes ",") 13 14)) (leaf (number (codes "2") 14 15)) none) (mark (codes ")") 15 16)) (link (operator.One (mark (codes ",") 16 17)) (tuple (mark (codes "(") 17 18) (leaf (number (codes "2") 18 19)) (link (operator.One (mark (codes ",") 19 20)) (leaf (number (codes "2") 20 21)) none) (mark (codes ")") 21 22)) none) absent (mark (codes "}") 22 23))) none)) none absent (mark (codes "}") 23 24))) ≡ Ok (Many (Some 1) ((Number (pos 2) ∷ []) ∷ []))
unfolding role_of marks keys operations operation reduction is_minus is_small number_in numeral_at mantissa_at power_at whole_value span_of span_between braces_span
selects_by_itself = refl

-- {(i,1 + 1) in {(1,2),(2,3),(4,2)}}
selects_by_a_value : value [] [] (braced (filled (mark (codes "{") 0 1) (chain 7 (tuple (mark (codes "(") 1 2) (leaf (name (codes "i") 2 3)) (link (operator.One (mark (codes ",") 3 4)) (chain 2 (leaf (number (codes "1") 4 5)) (link (operator.One (mark (codes "+") 6 7)) (leaf (number (codes "1") 8 9)) none)) none) (mark (codes ")") 9 10)) (link (operator.One (key (codes "in") 11 13)) (braced (filled (mark (codes "{") 14 15) (tuple (mark (codes "(") 15 16) (leaf (number (codes "1") 16 17)) (link (operator.One (mark (codes ",") 17 18)) (leaf (number (codes "2") 18 19)) none) (mark (codes ")") 19 20)) (link (operator.One (mark (codes ",") 20 21)) (tuple (mark (codes "(") 21 22) (leaf (number (codes "2") 22 23)) (link (operator.One (mark (codes ",") 23 24)) (leaf (number (codes "3") 24 25)) none) (mark (codes ")") 25 26)) (link (operator.One (mark (codes ",") 26 27)) (tuple (mark (codes "(") 27 28) (leaf (number (codes "4") 28 29)) (link (operator.One (mark (codes ",") 29 30)) (leaf (number (codes "2") 30 31)) none) (mark (codes ")") 31 32)) none)) absent (mark (codes "}") 32 33))) none)) none absent (mark (codes "}") 33 34))) ≡ Ok (Many (Some 1) ((Number (pos 1) ∷ []) ∷ (Number (pos 4) ∷ []) ∷ []))
unfolding role_of marks keys operations operation reduction is_minus is_small number_in numeral_at mantissa_at power_at whole_value span_of span_between braces_span
selects_by_a_value = refl

-- {(i,j) in L: j div (j - 2) > 0}
fault_of_the_first_tuple : value pairs (i_is 1) (braced (filled (mark (codes "{") 0 1) (chain 7 (tuple (mark (codes "(") 1 2) (leaf (name (codes "i") 2 3)) (link (operator.One (mark (codes ",") 3 4)) (leaf (name (codes "j") 4 5)) none) (mark (codes ")") 5 6)) (link (operator.One (key (codes "in") 7 9)) (leaf (name (codes "L") 10 11)) none)) none (part (mark (codes ":") 11 12) (chain 7 (chain 1 (leaf (name (codes "j") 13 14)) (link (operator.One (key (codes "div") 15 18)) (parens (mark (codes "(") 19 20) (chain 2 (leaf (name (codes "j") 20 21)) (link (operator.One (mark (codes "-") 22 23)) (leaf (number (codes "2") 24 25)) none)) (mark (codes ")") 25 26)) none)) (link (operator.One (mark (codes ">") 27 28)) (leaf (number (codes "0") 29 30)) none))) (mark (codes "}") 30 31))) ≡ Err (record { error_code = error_codes.DivMod; text = languages.Model; at = record { start = 13; end = 26 }; detail = Nothing })
unfolding role_of marks keys operations operation reduction is_minus is_small number_in numeral_at mantissa_at power_at whole_value span_of span_between braces_span
fault_of_the_first_tuple = refl

-- {(i,j) in L: j div (j - 2) > 0}
nothing_is_selected : value pairs (i_is 3) (braced (filled (mark (codes "{") 0 1) (chain 7 (tuple (mark (codes "(") 1 2) (leaf (name (codes "i") 2 3)) (link (operator.One (mark (codes ",") 3 4)) (leaf (name (codes "j") 4 5)) none) (mark (codes ")") 5 6)) (link (operator.One (key (codes "in") 7 9)) (leaf (name (codes "L") 10 11)) none)) none (part (mark (codes ":") 11 12) (chain 7 (chain 1 (leaf (name (codes "j") 13 14)) (link (operator.One (key (codes "div") 15 18)) (parens (mark (codes "(") 19 20) (chain 2 (leaf (name (codes "j") 20 21)) (link (operator.One (mark (codes "-") 22 23)) (leaf (number (codes "2") 24 25)) none)) (mark (codes ")") 25 26)) none)) (link (operator.One (mark (codes ">") 27 28)) (leaf (number (codes "0") 29 30)) none))) (mark (codes "}") 30 31))) ≡ Ok (Many (Some 1) ([]))
unfolding role_of marks keys operations operation reduction is_minus is_small number_in numeral_at mantissa_at power_at whole_value span_of span_between braces_span
nothing_is_selected = refl

-- {i in CITIES, (i,j) in LINKS: cost[i,j] > 0}
missing_under_a_condition : value cities [] (braced (filled (mark (codes "{") 0 1) (chain 7 (leaf (name (codes "i") 1 2)) (link (operator.One (key (codes "in") 3 5)) (leaf (name (codes "CITIES") 6 12)) none)) (link (operator.One (mark (codes ",") 12 13)) (chain 7 (tuple (mark (codes "(") 14 15) (leaf (name (codes "i") 15 16)) (link (operator.One (mark (codes ",") 16 17)) (leaf (name (codes "j") 17 18)) none) (mark (codes ")") 18 19)) (link (operator.One (key (codes "in") 20 22)) (leaf (name (codes "LINKS") 23 28)) none)) none) (part (mark (codes ":") 28 29) (chain 7 (indexed (name (codes "cost") 30 34) (mark (codes "[") 34 35) (leaf (name (codes "i") 35 36)) (link (operator.One (mark (codes ",") 36 37)) (leaf (name (codes "j") 37 38)) none) (mark (codes "]") 38 39)) (link (operator.One (mark (codes ">") 40 41)) (leaf (number (codes "0") 42 43)) none))) (mark (codes "}") 43 44))) ≡ Err (record { error_code = error_codes.NoValue; text = languages.Model; at = record { start = 30; end = 39 }; detail = Reported (codes "cost['b','a']") })
unfolding role_of marks keys operations operation reduction is_minus is_small number_in numeral_at mantissa_at power_at whole_value span_of span_between braces_span
missing_under_a_condition = refl

-- {i in 1..5: i mod 2 = 1}
kept_by_a_condition : value [] [] (braced (filled (mark (codes "{") 0 1) (chain 7 (leaf (name (codes "i") 1 2)) (link (operator.One (key (codes "in") 3 5)) (chain 3 (leaf (number (codes "1") 6 7)) (link (operator.One (mark (codes "..") 7 9)) (leaf (number (codes "5") 9 10)) none)) none)) none (part (mark (codes ":") 10 11) (chain 7 (chain 1 (leaf (name (codes "i") 12 13)) (link (operator.One (key (codes "mod") 14 17)) (leaf (number (codes "2") 18 19)) none)) (link (operator.One (mark (codes "=") 20 21)) (leaf (number (codes "1") 22 23)) none))) (mark (codes "}") 23 24))) ≡ Ok (Many (Some 1) ((Number (pos 1) ∷ []) ∷ (Number (pos 3) ∷ []) ∷ (Number (pos 5) ∷ []) ∷ []))
unfolding role_of marks keys operations operation reduction is_minus is_small number_in numeral_at mantissa_at power_at whole_value span_of span_between braces_span
kept_by_a_condition = refl

-- {i in 1..5: i}
number_as_condition : value [] [] (braced (filled (mark (codes "{") 0 1) (chain 7 (leaf (name (codes "i") 1 2)) (link (operator.One (key (codes "in") 3 5)) (chain 3 (leaf (number (codes "1") 6 7)) (link (operator.One (mark (codes "..") 7 9)) (leaf (number (codes "5") 9 10)) none)) none)) none (part (mark (codes ":") 10 11) (leaf (name (codes "i") 12 13))) (mark (codes "}") 13 14))) ≡ Err (record { error_code = error_codes.KindMismatch; text = languages.Model; at = record { start = 0; end = 14 }; detail = Nothing })
unfolding role_of marks keys operations operation reduction is_minus is_small number_in numeral_at mantissa_at power_at whole_value span_of span_between braces_span
number_as_condition = refl

-- {i in 1..2, j in 1..(2 div (2 - i)), k in 1..(1 div (i - 1))}
depth_first : value [] [] (braced (filled (mark (codes "{") 0 1) (chain 7 (leaf (name (codes "i") 1 2)) (link (operator.One (key (codes "in") 3 5)) (chain 3 (leaf (number (codes "1") 6 7)) (link (operator.One (mark (codes "..") 7 9)) (leaf (number (codes "2") 9 10)) none)) none)) (link (operator.One (mark (codes ",") 10 11)) (chain 7 (leaf (name (codes "j") 12 13)) (link (operator.One (key (codes "in") 14 16)) (chain 3 (leaf (number (codes "1") 17 18)) (link (operator.One (mark (codes "..") 18 20)) (parens (mark (codes "(") 20 21) (chain 1 (leaf (number (codes "2") 21 22)) (link (operator.One (key (codes "div") 23 26)) (parens (mark (codes "(") 27 28) (chain 2 (leaf (number (codes "2") 28 29)) (link (operator.One (mark (codes "-") 30 31)) (leaf (name (codes "i") 32 33)) none)) (mark (codes ")") 33 34)) none)) (mark (codes ")") 34 35)) none)) none)) (link (operator.One (mark (codes ",") 35 36)) (chain 7 (leaf (name (codes "k") 37 38)) (link (operator.One (key (codes "in") 39 41)) (chain 3 (leaf (number (codes "1") 42 43)) (link (operator.One (mark (codes "..") 43 45)) (parens (mark (codes "(") 45 46) (chain 1 (leaf (number (codes "1") 46 47)) (link (operator.One (key (codes "div") 48 51)) (parens (mark (codes "(") 52 53) (chain 2 (leaf (name (codes "i") 53 54)) (link (operator.One (mark (codes "-") 55 56)) (leaf (number (codes "1") 57 58)) none)) (mark (codes ")") 58 59)) none)) (mark (codes ")") 59 60)) none)) none)) none)) absent (mark (codes "}") 60 61))) ≡ Err (record { error_code = error_codes.DivMod; text = languages.Model; at = record { start = 46; end = 59 }; detail = Nothing })
unfolding role_of marks keys operations operation reduction is_minus is_small number_in numeral_at mantissa_at power_at whole_value span_of span_between braces_span
depth_first = refl

-- {i in 1..2, j in 1..(2 div (2 - i)): 1 div 0 = 1}
whole_list_first : value [] [] (braced (filled (mark (codes "{") 0 1) (chain 7 (leaf (name (codes "i") 1 2)) (link (operator.One (key (codes "in") 3 5)) (chain 3 (leaf (number (codes "1") 6 7)) (link (operator.One (mark (codes "..") 7 9)) (leaf (number (codes "2") 9 10)) none)) none)) (link (operator.One (mark (codes ",") 10 11)) (chain 7 (leaf (name (codes "j") 12 13)) (link (operator.One (key (codes "in") 14 16)) (chain 3 (leaf (number (codes "1") 17 18)) (link (operator.One (mark (codes "..") 18 20)) (parens (mark (codes "(") 20 21) (chain 1 (leaf (number (codes "2") 21 22)) (link (operator.One (key (codes "div") 23 26)) (parens (mark (codes "(") 27 28) (chain 2 (leaf (number (codes "2") 28 29)) (link (operator.One (mark (codes "-") 30 31)) (leaf (name (codes "i") 32 33)) none)) (mark (codes ")") 33 34)) none)) (mark (codes ")") 34 35)) none)) none)) none) (part (mark (codes ":") 35 36) (chain 7 (chain 1 (leaf (number (codes "1") 37 38)) (link (operator.One (key (codes "div") 39 42)) (leaf (number (codes "0") 43 44)) none)) (link (operator.One (mark (codes "=") 45 46)) (leaf (number (codes "1") 47 48)) none))) (mark (codes "}") 48 49))) ≡ Err (record { error_code = error_codes.DivMod; text = languages.Model; at = record { start = 21; end = 34 }; detail = Nothing })
unfolding role_of marks keys operations operation reduction is_minus is_small number_in numeral_at mantissa_at power_at whole_value span_of span_between braces_span
whole_list_first = refl

-- {i in 5}
in_a_number : value [] [] (braced (filled (mark (codes "{") 0 1) (chain 7 (leaf (name (codes "i") 1 2)) (link (operator.One (key (codes "in") 3 5)) (leaf (number (codes "5") 6 7)) none)) none absent (mark (codes "}") 7 8))) ≡ Err (record { error_code = error_codes.KindMismatch; text = languages.Model; at = record { start = 1; end = 7 }; detail = Nothing })
unfolding role_of marks keys operations operation reduction is_minus is_small number_in numeral_at mantissa_at power_at whole_value span_of span_between braces_span
in_a_number = refl

-- {(i,j) in ({1} diff {1})}
pairs_of_singles : value [] [] (braced (filled (mark (codes "{") 0 1) (chain 7 (tuple (mark (codes "(") 1 2) (leaf (name (codes "i") 2 3)) (link (operator.One (mark (codes ",") 3 4)) (leaf (name (codes "j") 4 5)) none) (mark (codes ")") 5 6)) (link (operator.One (key (codes "in") 7 9)) (parens (mark (codes "(") 10 11) (chain 6 (braced (filled (mark (codes "{") 11 12) (leaf (number (codes "1") 12 13)) none absent (mark (codes "}") 13 14))) (link (operator.One (key (codes "diff") 15 19)) (braced (filled (mark (codes "{") 20 21) (leaf (number (codes "1") 21 22)) none absent (mark (codes "}") 22 23))) none)) (mark (codes ")") 23 24)) none)) none absent (mark (codes "}") 24 25))) ≡ Err (record { error_code = error_codes.Arity; text = languages.Model; at = record { start = 1; end = 24 }; detail = Nothing })
unfolding role_of marks keys operations operation reduction is_minus is_small number_in numeral_at mantissa_at power_at whole_value span_of span_between braces_span
pairs_of_singles = refl

-- {(i,j) in {}}
pairs_of_nothing : value [] [] (braced (filled (mark (codes "{") 0 1) (chain 7 (tuple (mark (codes "(") 1 2) (leaf (name (codes "i") 2 3)) (link (operator.One (mark (codes ",") 3 4)) (leaf (name (codes "j") 4 5)) none) (mark (codes ")") 5 6)) (link (operator.One (key (codes "in") 7 9)) (braced (empty (mark (codes "{") 10 11) absent (mark (codes "}") 11 12))) none)) none absent (mark (codes "}") 12 13))) ≡ Ok (Many (Some 2) ([]))
unfolding role_of marks keys operations operation reduction is_minus is_small number_in numeral_at mantissa_at power_at whole_value span_of span_between braces_span
pairs_of_nothing = refl

-- {(i,j,k,l,m) in {}}
fifth_component : value [] [] (braced (filled (mark (codes "{") 0 1) (chain 7 (tuple (mark (codes "(") 1 2) (leaf (name (codes "i") 2 3)) (link (operator.One (mark (codes ",") 3 4)) (leaf (name (codes "j") 4 5)) (link (operator.One (mark (codes ",") 5 6)) (leaf (name (codes "k") 6 7)) (link (operator.One (mark (codes ",") 7 8)) (leaf (name (codes "l") 8 9)) (link (operator.One (mark (codes ",") 9 10)) (leaf (name (codes "m") 10 11)) none)))) (mark (codes ")") 11 12)) (link (operator.One (key (codes "in") 13 15)) (braced (empty (mark (codes "{") 16 17) absent (mark (codes "}") 17 18))) none)) none absent (mark (codes "}") 18 19))) ≡ Err (record { error_code = error_codes.Arity; text = languages.Model; at = record { start = 1; end = 18 }; detail = Nothing })
unfolding role_of marks keys operations operation reduction is_minus is_small number_in numeral_at mantissa_at power_at whole_value span_of span_between braces_span
fifth_component = refl

-- {i in L}
dummy_in_pairs : value pairs [] (braced (filled (mark (codes "{") 0 1) (chain 7 (leaf (name (codes "i") 1 2)) (link (operator.One (key (codes "in") 3 5)) (leaf (name (codes "L") 6 7)) none)) none absent (mark (codes "}") 7 8))) ≡ Err (record { error_code = error_codes.Arity; text = languages.Model; at = record { start = 1; end = 7 }; detail = Nothing })
unfolding role_of marks keys operations operation reduction is_minus is_small number_in numeral_at mantissa_at power_at whole_value span_of span_between braces_span
dummy_in_pairs = refl

-- {((1,2)) in L}
whole_pair : value pairs [] (braced (filled (mark (codes "{") 0 1) (chain 7 (parens (mark (codes "(") 1 2) (tuple (mark (codes "(") 2 3) (leaf (number (codes "1") 3 4)) (link (operator.One (mark (codes ",") 4 5)) (leaf (number (codes "2") 5 6)) none) (mark (codes ")") 6 7)) (mark (codes ")") 7 8)) (link (operator.One (key (codes "in") 9 11)) (leaf (name (codes "L") 12 13)) none)) none absent (mark (codes "}") 13 14))) ≡ Ok (Many (Some 0) (([]) ∷ []))
unfolding role_of marks keys operations operation reduction is_minus is_small number_in numeral_at mantissa_at power_at whole_value span_of span_between braces_span
whole_pair = refl

-- {((1,2)) in {3}}
whole_of_another_length : value [] [] (braced (filled (mark (codes "{") 0 1) (chain 7 (parens (mark (codes "(") 1 2) (tuple (mark (codes "(") 2 3) (leaf (number (codes "1") 3 4)) (link (operator.One (mark (codes ",") 4 5)) (leaf (number (codes "2") 5 6)) none) (mark (codes ")") 6 7)) (mark (codes ")") 7 8)) (link (operator.One (key (codes "in") 9 11)) (braced (filled (mark (codes "{") 12 13) (leaf (number (codes "3") 13 14)) none absent (mark (codes "}") 14 15))) none)) none absent (mark (codes "}") 15 16))) ≡ Err (record { error_code = error_codes.Arity; text = languages.Model; at = record { start = 1; end = 15 }; detail = Nothing })
unfolding role_of marks keys operations operation reduction is_minus is_small number_in numeral_at mantissa_at power_at whole_value span_of span_between braces_span
whole_of_another_length = refl

-- {(1,{2}) in L}
set_as_component : value pairs [] (braced (filled (mark (codes "{") 0 1) (chain 7 (tuple (mark (codes "(") 1 2) (leaf (number (codes "1") 2 3)) (link (operator.One (mark (codes ",") 3 4)) (braced (filled (mark (codes "{") 4 5) (leaf (number (codes "2") 5 6)) none absent (mark (codes "}") 6 7))) none) (mark (codes ")") 7 8)) (link (operator.One (key (codes "in") 9 11)) (leaf (name (codes "L") 12 13)) none)) none absent (mark (codes "}") 13 14))) ≡ Err (record { error_code = error_codes.KindMismatch; text = languages.Model; at = record { start = 1; end = 8 }; detail = Nothing })
unfolding role_of marks keys operations operation reduction is_minus is_small number_in numeral_at mantissa_at power_at whole_value span_of span_between braces_span
set_as_component = refl

-- {(2,7 div 0) in {(1,2)}}
up_to_the_first_that_differs : value [] [] (braced (filled (mark (codes "{") 0 1) (chain 7 (tuple (mark (codes "(") 1 2) (leaf (number (codes "2") 2 3)) (link (operator.One (mark (codes ",") 3 4)) (chain 1 (leaf (number (codes "7") 4 5)) (link (operator.One (key (codes "div") 6 9)) (leaf (number (codes "0") 10 11)) none)) none) (mark (codes ")") 11 12)) (link (operator.One (key (codes "in") 13 15)) (braced (filled (mark (codes "{") 16 17) (tuple (mark (codes "(") 17 18) (leaf (number (codes "1") 18 19)) (link (operator.One (mark (codes ",") 19 20)) (leaf (number (codes "2") 20 21)) none) (mark (codes ")") 21 22)) none absent (mark (codes "}") 22 23))) none)) none absent (mark (codes "}") 23 24))) ≡ Ok (Many (Some 0) ([]))
unfolding role_of marks keys operations operation reduction is_minus is_small number_in numeral_at mantissa_at power_at whole_value span_of span_between braces_span
up_to_the_first_that_differs = refl

-- {1 in {1}}
selecting_without_a_key : value [] [] (braced (filled (mark (codes "{") 0 1) (chain 7 (leaf (number (codes "1") 1 2)) (link (operator.One (key (codes "in") 3 5)) (braced (filled (mark (codes "{") 6 7) (leaf (number (codes "1") 7 8)) none absent (mark (codes "}") 8 9))) none)) none absent (mark (codes "}") 9 10))) ≡ Ok (Many (Some 0) (([]) ∷ []))
unfolding role_of marks keys operations operation reduction is_minus is_small number_in numeral_at mantissa_at power_at whole_value span_of span_between braces_span
selecting_without_a_key = refl

-- {7 div 0 in {}}
selecting_nothing : value [] [] (braced (filled (mark (codes "{") 0 1) (chain 7 (chain 1 (leaf (number (codes "7") 1 2)) (link (operator.One (key (codes "div") 3 6)) (leaf (number (codes "0") 7 8)) none)) (link (operator.One (key (codes "in") 9 11)) (braced (empty (mark (codes "{") 12 13) absent (mark (codes "}") 13 14))) none)) none absent (mark (codes "}") 14 15))) ≡ Ok (Many (Some 0) ([]))
unfolding role_of marks keys operations operation reduction is_minus is_small number_in numeral_at mantissa_at power_at whole_value span_of span_between braces_span
selecting_nothing = refl

-- {i in 1..2, i}
number_after_a_set : value [] [] (braced (filled (mark (codes "{") 0 1) (chain 7 (leaf (name (codes "i") 1 2)) (link (operator.One (key (codes "in") 3 5)) (chain 3 (leaf (number (codes "1") 6 7)) (link (operator.One (mark (codes "..") 7 9)) (leaf (number (codes "2") 9 10)) none)) none)) (link (operator.One (mark (codes ",") 10 11)) (leaf (name (codes "i") 12 13)) none) absent (mark (codes "}") 13 14))) ≡ Err (record { error_code = error_codes.KindMismatch; text = languages.Model; at = record { start = 0; end = 14 }; detail = Nothing })
unfolding role_of marks keys operations operation reduction is_minus is_small number_in numeral_at mantissa_at power_at whole_value span_of span_between braces_span
number_after_a_set = refl

-- {i in {}, 5}
number_never_reached : value [] [] (braced (filled (mark (codes "{") 0 1) (chain 7 (leaf (name (codes "i") 1 2)) (link (operator.One (key (codes "in") 3 5)) (braced (empty (mark (codes "{") 6 7) absent (mark (codes "}") 7 8))) none)) (link (operator.One (mark (codes ",") 8 9)) (leaf (number (codes "5") 10 11)) none) absent (mark (codes "}") 11 12))) ≡ Err (record { error_code = error_codes.KindMismatch; text = languages.Model; at = record { start = 0; end = 12 }; detail = Nothing })
unfolding role_of marks keys operations operation reduction is_minus is_small number_in numeral_at mantissa_at power_at whole_value span_of span_between braces_span
number_never_reached = refl

-- {i in {}, j in 1..2, LINKS}
keys_by_form : value cities [] (braced (filled (mark (codes "{") 0 1) (chain 7 (leaf (name (codes "i") 1 2)) (link (operator.One (key (codes "in") 3 5)) (braced (empty (mark (codes "{") 6 7) absent (mark (codes "}") 7 8))) none)) (link (operator.One (mark (codes ",") 8 9)) (chain 7 (leaf (name (codes "j") 10 11)) (link (operator.One (key (codes "in") 12 14)) (chain 3 (leaf (number (codes "1") 15 16)) (link (operator.One (mark (codes "..") 16 18)) (leaf (number (codes "2") 18 19)) none)) none)) (link (operator.One (mark (codes ",") 19 20)) (leaf (name (codes "LINKS") 21 26)) none)) absent (mark (codes "}") 26 27))) ≡ Ok (Many (Some 4) ([]))
unfolding role_of marks keys operations operation reduction is_minus is_small number_in numeral_at mantissa_at power_at whole_value span_of span_between braces_span
keys_by_form = refl

-- {i in {}, (i,j) in LINKS}
selects_by_form : value cities [] (braced (filled (mark (codes "{") 0 1) (chain 7 (leaf (name (codes "i") 1 2)) (link (operator.One (key (codes "in") 3 5)) (braced (empty (mark (codes "{") 6 7) absent (mark (codes "}") 7 8))) none)) (link (operator.One (mark (codes ",") 8 9)) (chain 7 (tuple (mark (codes "(") 10 11) (leaf (name (codes "i") 11 12)) (link (operator.One (mark (codes ",") 12 13)) (leaf (name (codes "j") 13 14)) none) (mark (codes ")") 14 15)) (link (operator.One (key (codes "in") 16 18)) (leaf (name (codes "LINKS") 19 24)) none)) none) absent (mark (codes "}") 24 25))) ≡ Ok (Many (Some 2) ([]))
unfolding role_of marks keys operations operation reduction is_minus is_small number_in numeral_at mantissa_at power_at whole_value span_of span_between braces_span
selects_by_form = refl

-- {a in 1..1, b in 1..1, c in 1..1, d in 1..1, e in 1..2}
five_keys : value [] [] (braced (filled (mark (codes "{") 0 1) (chain 7 (leaf (name (codes "a") 1 2)) (link (operator.One (key (codes "in") 3 5)) (chain 3 (leaf (number (codes "1") 6 7)) (link (operator.One (mark (codes "..") 7 9)) (leaf (number (codes "1") 9 10)) none)) none)) (link (operator.One (mark (codes ",") 10 11)) (chain 7 (leaf (name (codes "b") 12 13)) (link (operator.One (key (codes "in") 14 16)) (chain 3 (leaf (number (codes "1") 17 18)) (link (operator.One (mark (codes "..") 18 20)) (leaf (number (codes "1") 20 21)) none)) none)) (link (operator.One (mark (codes ",") 21 22)) (chain 7 (leaf (name (codes "c") 23 24)) (link (operator.One (key (codes "in") 25 27)) (chain 3 (leaf (number (codes "1") 28 29)) (link (operator.One (mark (codes "..") 29 31)) (leaf (number (codes "1") 31 32)) none)) none)) (link (operator.One (mark (codes ",") 32 33)) (chain 7 (leaf (name (codes "d") 34 35)) (link (operator.One (key (codes "in") 36 38)) (chain 3 (leaf (number (codes "1") 39 40)) (link (operator.One (mark (codes "..") 40 42)) (leaf (number (codes "1") 42 43)) none)) none)) (link (operator.One (mark (codes ",") 43 44)) (chain 7 (leaf (name (codes "e") 45 46)) (link (operator.One (key (codes "in") 47 49)) (chain 3 (leaf (number (codes "1") 50 51)) (link (operator.One (mark (codes "..") 51 53)) (leaf (number (codes "2") 53 54)) none)) none)) none)))) absent (mark (codes "}") 54 55))) ≡ Err (record { error_code = error_codes.Arity; text = languages.Model; at = record { start = 0; end = 55 }; detail = Nothing })
unfolding role_of marks keys operations operation reduction is_minus is_small number_in numeral_at mantissa_at power_at whole_value span_of span_between braces_span
five_keys = refl

-- {a in {}, b in {}, c in {}, d in {}, e in {}}
five_keys_by_form : value [] [] (braced (filled (mark (codes "{") 0 1) (chain 7 (leaf (name (codes "a") 1 2)) (link (operator.One (key (codes "in") 3 5)) (braced (empty (mark (codes "{") 6 7) absent (mark (codes "}") 7 8))) none)) (link (operator.One (mark (codes ",") 8 9)) (chain 7 (leaf (name (codes "b") 10 11)) (link (operator.One (key (codes "in") 12 14)) (braced (empty (mark (codes "{") 15 16) absent (mark (codes "}") 16 17))) none)) (link (operator.One (mark (codes ",") 17 18)) (chain 7 (leaf (name (codes "c") 19 20)) (link (operator.One (key (codes "in") 21 23)) (braced (empty (mark (codes "{") 24 25) absent (mark (codes "}") 25 26))) none)) (link (operator.One (mark (codes ",") 26 27)) (chain 7 (leaf (name (codes "d") 28 29)) (link (operator.One (key (codes "in") 30 32)) (braced (empty (mark (codes "{") 33 34) absent (mark (codes "}") 34 35))) none)) (link (operator.One (mark (codes ",") 35 36)) (chain 7 (leaf (name (codes "e") 37 38)) (link (operator.One (key (codes "in") 39 41)) (braced (empty (mark (codes "{") 42 43) absent (mark (codes "}") 43 44))) none)) none)))) absent (mark (codes "}") 44 45))) ≡ Err (record { error_code = error_codes.Arity; text = languages.Model; at = record { start = 0; end = 45 }; detail = Nothing })
unfolding role_of marks keys operations operation reduction is_minus is_small number_in numeral_at mantissa_at power_at whole_value span_of span_between braces_span
five_keys_by_form = refl

-- {i in 1..2, (if i = 1 then {1} else {(1,2)})}
keys_unlike : value [] [] (braced (filled (mark (codes "{") 0 1) (chain 7 (leaf (name (codes "i") 1 2)) (link (operator.One (key (codes "in") 3 5)) (chain 3 (leaf (number (codes "1") 6 7)) (link (operator.One (mark (codes "..") 7 9)) (leaf (number (codes "2") 9 10)) none)) none)) (link (operator.One (mark (codes ",") 10 11)) (parens (mark (codes "(") 12 13) (choice (key (codes "if") 13 15) (chain 7 (leaf (name (codes "i") 16 17)) (link (operator.One (mark (codes "=") 18 19)) (leaf (number (codes "1") 20 21)) none)) (key (codes "then") 22 26) (braced (filled (mark (codes "{") 27 28) (leaf (number (codes "1") 28 29)) none absent (mark (codes "}") 29 30))) (part (key (codes "else") 31 35) (braced (filled (mark (codes "{") 36 37) (tuple (mark (codes "(") 37 38) (leaf (number (codes "1") 38 39)) (link (operator.One (mark (codes ",") 39 40)) (leaf (number (codes "2") 40 41)) none) (mark (codes ")") 41 42)) none absent (mark (codes "}") 42 43))))) (mark (codes ")") 43 44)) none) absent (mark (codes "}") 44 45))) ≡ Err (record { error_code = error_codes.Arity; text = languages.Model; at = record { start = 0; end = 45 }; detail = Nothing })
unfolding role_of marks keys operations operation reduction is_minus is_small number_in numeral_at mantissa_at power_at whole_value span_of span_between braces_span
keys_unlike = refl

-- {1 not in {2}}
not_in_is_no_dummy : value [] [] (braced (filled (mark (codes "{") 0 1) (chain 7 (leaf (number (codes "1") 1 2)) (link (operator.Two (key (codes "not") 3 6) (key (codes "in") 7 9)) (braced (filled (mark (codes "{") 10 11) (leaf (number (codes "2") 11 12)) none absent (mark (codes "}") 12 13))) none)) none absent (mark (codes "}") 13 14))) ≡ Err (record { error_code = error_codes.KindMismatch; text = languages.Model; at = record { start = 0; end = 14 }; detail = Nothing })
unfolding role_of marks keys operations operation reduction is_minus is_small number_in numeral_at mantissa_at power_at whole_value span_of span_between braces_span
not_in_is_no_dummy = refl

-- {i in {3,1} union {2,1}}    each key with its dummy
each_with_its_dummy : index [] [] (filled (mark (codes "{") 0 1) (chain 7 (leaf (name (codes "i") 1 2)) (link (operator.One (key (codes "in") 3 5)) (chain 6 (braced (filled (mark (codes "{") 6 7) (leaf (number (codes "3") 7 8)) (link (operator.One (mark (codes ",") 8 9)) (leaf (number (codes "1") 9 10)) none) absent (mark (codes "}") 10 11))) (link (operator.One (key (codes "union") 12 17)) (braced (filled (mark (codes "{") 18 19) (leaf (number (codes "2") 19 20)) (link (operator.One (mark (codes ",") 20 21)) (leaf (number (codes "1") 21 22)) none) absent (mark (codes "}") 22 23))) none)) none)) none absent (mark (codes "}") 23 24)) ≡ Ok (record { width = Some 1; rows = ((record { key = (Number (pos 3) ∷ []); scope = ((record { name = codes "i"; member = Number (pos 3) }) ∷ []) }) ∷ (record { key = (Number (pos 1) ∷ []); scope = ((record { name = codes "i"; member = Number (pos 1) }) ∷ []) }) ∷ (record { key = (Number (pos 2) ∷ []); scope = ((record { name = codes "i"; member = Number (pos 2) }) ∷ []) }) ∷ []) })
unfolding role_of marks keys operations operation reduction is_minus is_small number_in numeral_at mantissa_at power_at whole_value span_of span_between braces_span
each_with_its_dummy = refl

-- {i in 1..1, 2..2, (j,i) in {(5,1),(6,2)}}    a plain item gives members of the key and no dummy
the_newest_first : index [] [] (filled (mark (codes "{") 0 1) (chain 7 (leaf (name (codes "i") 1 2)) (link (operator.One (key (codes "in") 3 5)) (chain 3 (leaf (number (codes "1") 6 7)) (link (operator.One (mark (codes "..") 7 9)) (leaf (number (codes "1") 9 10)) none)) none)) (link (operator.One (mark (codes ",") 10 11)) (chain 3 (leaf (number (codes "2") 12 13)) (link (operator.One (mark (codes "..") 13 15)) (leaf (number (codes "2") 15 16)) none)) (link (operator.One (mark (codes ",") 16 17)) (chain 7 (tuple (mark (codes "(") 18 19) (leaf (name (codes "j") 19 20)) (link (operator.One (mark (codes ",") 20 21)) (leaf (name (codes "i") 21 22)) none) (mark (codes ")") 22 23)) (link (operator.One (key (codes "in") 24 26)) (braced (filled (mark (codes "{") 27 28) (tuple (mark (codes "(") 28 29) (leaf (number (codes "5") 29 30)) (link (operator.One (mark (codes ",") 30 31)) (leaf (number (codes "1") 31 32)) none) (mark (codes ")") 32 33)) (link (operator.One (mark (codes ",") 33 34)) (tuple (mark (codes "(") 34 35) (leaf (number (codes "6") 35 36)) (link (operator.One (mark (codes ",") 36 37)) (leaf (number (codes "2") 37 38)) none) (mark (codes ")") 38 39)) none) absent (mark (codes "}") 39 40))) none)) none)) absent (mark (codes "}") 40 41)) ≡ Ok (record { width = Some 3; rows = ((record { key = (Number (pos 1) ∷ Number (pos 2) ∷ Number (pos 5) ∷ []); scope = ((record { name = codes "j"; member = Number (pos 5) }) ∷ (record { name = codes "i"; member = Number (pos 1) }) ∷ []) }) ∷ []) })
unfolding role_of marks keys operations operation reduction is_minus is_small number_in numeral_at mantissa_at power_at whole_value span_of span_between braces_span
the_newest_first = refl

-- {}    `{}` fits every number of keys
nothing_has_no_width : index [] [] (empty (mark (codes "{") 0 1) absent (mark (codes "}") 1 2)) ≡ Ok (record { width = None; rows = ([]) })
unfolding role_of marks keys operations operation reduction is_minus is_small number_in numeral_at mantissa_at power_at whole_value span_of span_between braces_span
nothing_has_no_width = refl
