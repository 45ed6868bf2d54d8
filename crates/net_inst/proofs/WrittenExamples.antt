-- A small model worked out: its nodes and arcs as they are written, net inflows, and values of the objective.
--     node N {i in {1, 2}}: net_in = i;
--     minimize Cost: 7;
--     arc X {i in {1, 2}} >= 0, <= 9, to N[i], obj Cost i;
--     maximize Gain: 3 * X[1] - X[2] + 1;
use Rattle.std.specs.Prelude.{◌≡◌, ℕ, true, List, [], ◌∷◌, map, None, Some, ℤ, pos, codes}
use Rattle.std.proofs.Common.{refl}
use Rattle.net_lex.specs.NumeralFront.{mantissa_at, power_at, numeral_at}
use Rattle.net_lex.specs.Significands.{whole_value}
use Rattle.net_lex.specs.declared.token.Token.{Token}
use Rattle.net_lex.specs.declared.token.Kind.{Kind}
use Rattle.net_lex.specs.declared.token.Kind.TheVariants as kinds
use Rattle.net_sets.specs.declared.member.Member.TheVariants.{Number}
use Rattle.net_tree.specs.declared.operator.OperatorWords.TheVariants as operator
use Rattle.net_tree.specs.Role.{role_of, marks, keys}
use Rattle.net_tree.specs.Spans.{span_of, span_between, braces_span}
use Rattle.net_tree.specs.Tree.{Tree, leaf, indexed, braced, chain, net, none, link, absent, part, Braces, filled, Phrase, valued, priced, one, Declaration, node, arc, objective}
use Rattle.net_expr.specs.Limits.{is_small}
use Rattle.net_tree.specs.Operations.{operations, operation, reduction, is_minus}
use Rattle.net_tree.specs.Numerals.{number_in}
use Rattle.net_expr.specs.Worlds.{Name}
use Rattle.net_inst.specs.AsWritten.{WrittenLabel, nodes, arcs, numbers_on, Assignment, by_label, from_end, to_end, net_inflow}
use Rattle.net_inst.specs.Drafts.{sense_of}
use Rattle.net_inst.specs.Readings.{Objective, objectives, chosen, value_of}
use Rattle.std.specs.Prelude.{option_map}

-- where the tokens stand does not matter here
abbrev token : Kind → List ℕ → Token
token k t = record { kind = k; text = t; span = record { start = 0; end = 0 } }

abbrev name : List ℕ → Token
name t = token kinds.Name t

abbrev mark : List ℕ → Token
mark t = token kinds.Mark t

abbrev key : List ℕ → Token
key t = token kinds.Key t

abbrev number : List ℕ → Tree
number t = leaf (token kinds.Num t)

-- {i in {1, 2}}
abbrev each : Braces
each = filled (mark (codes "{")) (chain 7 (leaf (name (codes "i"))) (link (operator.One (key (codes "in"))) (braced (filled (mark (codes "{")) (number (codes "1")) (link (operator.One (mark (codes ","))) (number (codes "2")) none) absent (mark (codes "}")))) none)) none absent (mark (codes "}"))

-- a name with one subscript
abbrev at : List ℕ → Tree → Tree
at n x = indexed (name n) (mark (codes "[")) x none (mark (codes "]"))

abbrev phrase : Token → Tree → Phrase
phrase w x = record { comma = None; word = w; body = valued x }

abbrev phrases : List Phrase
phrases =
    phrase (mark (codes ">=")) (number (codes "0")) ∷ phrase (mark (codes "<=")) (number (codes "9")) ∷ phrase (key (codes "to")) (at (codes "N") (leaf (name (codes "i"))))
    ∷ (record { comma = None; word = key (codes "obj"); body = priced (name (codes "Cost")) (leaf (name (codes "i"))) }) ∷ []

abbrev gain : Tree
gain =
    chain 2 (chain 1 (number (codes "3")) (link (operator.One (mark (codes "*"))) (at (codes "X") (number (codes "1"))) none))
    (link (operator.One (mark (codes "-"))) (at (codes "X") (number (codes "2"))) (link (operator.One (mark (codes "+"))) (number (codes "1")) none))

abbrev model : List Declaration
model =
    node (key (codes "node")) (name (codes "N")) (Some each) (one (mark (codes ":")) (net None (key (codes "net_in"))) (mark (codes "=")) (leaf (name (codes "i")))) (mark (codes ";"))
    ∷ objective (key (codes "minimize")) (name (codes "Cost")) (part (mark (codes ":")) (number (codes "7"))) (mark (codes ";"))
    ∷ arc (key (codes "arc")) (name (codes "X")) (Some each) phrases (mark (codes ";"))
    ∷ objective (key (codes "maximize")) (name (codes "Gain")) (part (mark (codes ":")) gain) (mark (codes ";")) ∷ []

abbrev label : List ℕ → ℤ → WrittenLabel
label n k = record { name = n; indexed = true; key = Number k ∷ [] }

two_nodes : map (λ n. n.label) (nodes [] model) ≡ label (codes "N") (pos 1) ∷ label (codes "N") (pos 2) ∷ []
unfolding role_of marks keys operations operation reduction is_minus is_small number_in numeral_at mantissa_at power_at whole_value span_of span_between braces_span
two_nodes = refl

two_arcs : map (λ a. a.label) (arcs [] model) ≡ label (codes "X") (pos 1) ∷ label (codes "X") (pos 2) ∷ []
unfolding role_of marks keys operations operation reduction is_minus is_small number_in numeral_at mantissa_at power_at whole_value span_of span_between braces_span
two_arcs = refl

from_outside : map from_end (arcs [] model) ≡ None ∷ None ∷ []
unfolding role_of marks keys operations operation reduction is_minus is_small number_in numeral_at mantissa_at power_at whole_value span_of span_between braces_span
from_outside = refl

to_nodes : map to_end (arcs [] model) ≡ Some (codes "N", Number (pos 1) ∷ []) ∷ Some (codes "N", Number (pos 2) ∷ []) ∷ []
unfolding role_of marks keys operations operation reduction is_minus is_small number_in numeral_at mantissa_at power_at whole_value span_of span_between braces_span
to_nodes = refl

-- 4 on X[1], 6 on X[2]
abbrev flows : Assignment
flows = by_label (label (codes "X") (pos 1) ∷ label (codes "X") (pos 2) ∷ []) (pos 4 ∷ pos 6 ∷ [])

in_order : numbers_on flows (arcs [] model) ≡ pos 4 ∷ pos 6 ∷ []
unfolding role_of marks keys operations operation reduction is_minus is_small number_in numeral_at mantissa_at power_at whole_value span_of span_between braces_span
in_order = refl

second_inflow : net_inflow (arcs [] model) flows (label (codes "N") (pos 2)) ≡ pos 6
unfolding role_of marks keys operations operation reduction is_minus is_small number_in numeral_at mantissa_at power_at whole_value span_of span_between braces_span
second_inflow = refl

-- a name, a sense and a value
abbrev reported : Objective → Name × ℤ
reported o = (o.name, value_of o flows)

-- 7 + 1 * 4 + 2 * 6
by_phrases : option_map reported (chosen (Some (codes "Cost")) (objectives [] model)) ≡ Some (codes "Cost", pos 23)
unfolding role_of marks keys operations operation reduction is_minus is_small number_in numeral_at mantissa_at power_at whole_value span_of span_between braces_span sense_of
by_phrases = refl

-- 3 * 4 - 6 + 1
by_expression : option_map reported (chosen (Some (codes "Gain")) (objectives [] model)) ≡ Some (codes "Gain", pos 7)
unfolding role_of marks keys operations operation reduction is_minus is_small number_in numeral_at mantissa_at power_at whole_value span_of span_between braces_span sense_of
by_expression = refl

no_other : option_map reported (chosen (Some (codes "Loss")) (objectives [] model)) ≡ None
no_other = refl
