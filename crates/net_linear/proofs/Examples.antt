-- Conditions and objectives worked out.
use Rattle.std.specs.Prelude.{◌≡◌, ℕ, List, [], ◌∷◌, None, Some, Ok, Err, pos, negsuc, codes}
use Rattle.std.proofs.Common.{refl}
use Rattle.net_lex.specs.NumeralFront.{mantissa_at, power_at, numeral_at}
use Rattle.net_lex.specs.Significands.{whole_value}
use Rattle.net_lex.specs.declared.token.Token.{Token}
use Rattle.net_lex.specs.declared.token.Kind.TheVariants as kinds
use Rattle.net_tree.specs.declared.operator.OperatorWords.TheVariants as operator
use Rattle.net_tree.specs.Role.{role_of, marks, keys}
use Rattle.net_tree.specs.Spans.{span_of, span_between, braces_span}
use Rattle.net_tree.specs.Tree.{Tree, leaf, chain, net, none, link, one, between, unsaid}
use Rattle.net_base.specs.declared.diagnostic.Language.TheVariants as languages
use Rattle.net_base.specs.declared.diagnostic.Detail.TheVariants.{Nothing}
use Rattle.net_base.specs.declared.error_code.ErrorCode.TheVariants.{NotLinear}
use Rattle.net_expr.specs.Limits.{is_small}
use Rattle.net_tree.specs.Operations.{operations, operation, reduction, is_minus, is_outflow}
use Rattle.net_tree.specs.Numerals.{number_in}
use Rattle.net_linear.specs.Arcs.{Arcs}
use Rattle.net_linear.specs.Conditions.{range_in}
use Rattle.net_linear.specs.Objectives.{objective_form}

abbrev name : List ℕ → ℕ → ℕ → Token
name t a b = record { kind = kinds.Name; text = t; span = record { start = a; end = b } }

abbrev number : List ℕ → ℕ → ℕ → Tree
number t a b = leaf (record { kind = kinds.Num; text = t; span = record { start = a; end = b } })

abbrev key : List ℕ → ℕ → ℕ → Token
key t a b = record { kind = kinds.Key; text = t; span = record { start = a; end = b } }

abbrev mark : List ℕ → ℕ → ℕ → Token
mark t a b = record { kind = kinds.Mark; text = t; span = record { start = a; end = b } }

-- X and Y, without braces
abbrev two : Arcs
two = (codes "X", record { count = None; first = 0; keys = [] ∷ [] }) ∷ (codes "Y", record { count = None; first = 1; keys = [] ∷ [] }) ∷ []

-- nothing said: net inflow 0
nothing_said : range_in [] [] unsaid ≡ Ok (Some (record { low = Some (pos 0); high = Some (pos 0) }))
nothing_said = refl

-- : 3 >= 5 - net_out >= 1
reversed : range_in [] [] (between (mark (codes ":") 0 1) (number (codes "3") 2 3) (mark (codes ">=") 4 6) (chain 2 (number (codes "5") 7 8) (link (operator.One (mark (codes "-") 9 10)) (net None (key (codes "net_out") 11 18)) none)) (mark (codes ">=") 19 21) (number (codes "1") 22 23))
    ≡ Ok (Some (record { low = Some (negsuc 3); high = Some (negsuc 1) }))
unfolding role_of marks keys operations operation reduction is_minus is_small number_in numeral_at mantissa_at power_at whole_value span_of span_between braces_span is_outflow
reversed = refl

-- : 4 <= net_in <= 2
crossed : range_in [] [] (between (mark (codes ":") 0 1) (number (codes "4") 2 3) (mark (codes "<=") 4 6) (net None (key (codes "net_in") 7 13)) (mark (codes "<=") 14 16) (number (codes "2") 17 18))
    ≡ Ok None
unfolding role_of marks keys operations operation reduction is_minus is_small number_in numeral_at mantissa_at power_at whole_value span_of span_between braces_span is_outflow
crossed = refl

-- : net_in >= 3
open_above : range_in [] [] (one (mark (codes ":") 0 1) (net None (key (codes "net_in") 2 8)) (mark (codes ">=") 9 11) (number (codes "3") 12 13)) ≡ Ok (Some (record { low = Some (pos 3); high = None }))
unfolding role_of marks keys operations operation reduction is_minus is_small number_in numeral_at mantissa_at power_at whole_value span_of span_between braces_span is_outflow
open_above = refl

-- 3 * X - Y - X + 7
merged : objective_form two [] [] (chain 2 (chain 1 (number (codes "3") 0 1) (link (operator.One (mark (codes "*") 2 3)) (leaf (name (codes "X") 4 5)) none)) (link (operator.One (mark (codes "-") 6 7)) (leaf (name (codes "Y") 8 9)) (link (operator.One (mark (codes "-") 10 11)) (leaf (name (codes "X") 12 13)) (link (operator.One (mark (codes "+") 14 15)) (number (codes "7") 16 17) none))))
    ≡ Ok (record { constant = pos 7; products = (0, pos 2) ∷ (1, negsuc 0) ∷ [] })
unfolding role_of marks keys operations operation reduction is_minus is_small number_in numeral_at mantissa_at power_at whole_value span_of span_between braces_span
merged = refl

-- 1 + X * X
squared : objective_form two [] [] (chain 2 (number (codes "1") 0 1) (link (operator.One (mark (codes "+") 2 3)) (chain 1 (leaf (name (codes "X") 4 5)) (link (operator.One (mark (codes "*") 6 7)) (leaf (name (codes "X") 8 9)) none)) none))
    ≡ Err (record { error_code = NotLinear; text = languages.Model; at = record { start = 4; end = 9 }; detail = Nothing })
unfolding role_of marks keys operations operation reduction is_minus is_small number_in numeral_at mantissa_at power_at whole_value span_of span_between braces_span
squared = refl

-- 6 div 3 * X
divided_before : objective_form two [] [] (chain 1 (number (codes "6") 0 1) (link (operator.One (key (codes "div") 2 5)) (number (codes "3") 6 7) (link (operator.One (mark (codes "*") 8 9)) (leaf (name (codes "X") 10 11)) none)))
    ≡ Ok (record { constant = pos 0; products = (0, pos 2) ∷ [] })
unfolding role_of marks keys operations operation reduction is_minus is_small number_in numeral_at mantissa_at power_at whole_value span_of span_between braces_span
divided_before = refl
