-- The occurrences of a node's net inflow in its condition.
use Rattle.std.specs.Prelude.{Bool, true, false, ◌&&◌, if◌then◌else◌, ℤ, pos, neg_ℤ}
use Rattle.net_tree.specs.Tree.{Tree, Links, net, chain, none, link}
use Rattle.net_tree.specs.Operations.{operation, has_minus, is_outflow}
use Rattle.net_tree.specs.declared.operator.BinOp.{BinOp}
use Rattle.net_tree.specs.declared.operator.BinOp.TheVariants.{Minus}
use Rattle.net_linear.specs.declared.net_term.NetTerm.{NetTerm}
use Rattle.net_linear.specs.declared.net_term.NetTerm.TheVariants.{Absent, Inflow, Outflow, Unclear}
use Rattle.net_linear.specs.Signs.{is_sign}

abbrev pub negated : NetTerm → NetTerm
negated Inflow = Outflow
negated Outflow = Inflow
negated n = n

abbrev pub with_sign : Bool → NetTerm → NetTerm
with_sign true n = negated n
with_sign false n = n

-- how the net inflow occurs in a term
abbrev pub net_term : Tree → NetTerm
net_term (net sign word) = with_sign (has_minus sign) (with_sign (is_outflow word) Inflow)
net_term _ = Absent

-- in two terms that are added
abbrev pub beside : NetTerm → NetTerm → NetTerm
beside Absent n = n
beside n Absent = n
beside _ _ = Unclear

-- in the terms so far, and in a term after `+` or `-`
abbrev pub behind : BinOp → NetTerm → NetTerm → NetTerm
behind Minus so_far n = beside so_far (negated n)
behind _ so_far n = beside so_far n

abbrev pub net_terms : Links → NetTerm → NetTerm
net_terms none so_far = so_far
net_terms (link o x l) so_far = net_terms l (behind (operation o) so_far (net_term x))

-- terms with only `+` and `-` between them
abbrev pub are_terms : Links → Bool
are_terms none = true
are_terms (link o x l) = is_sign (operation o) && are_terms l

-- how the net inflow occurs in a side; with other operators it counts as absent (the grammar does
-- not allow net terms there)
abbrev pub net_side : Tree → NetTerm
net_side (chain n x l) = if are_terms l then net_terms l (net_term x) else Absent
net_side x = net_term x

-- the value of a net term if the net inflow is y
abbrev pub at_inflow : NetTerm → ℤ → ℤ
at_inflow Absent y = pos 0
at_inflow Inflow y = y
at_inflow Outflow y = neg_ℤ y
at_inflow Unclear y = pos 0
